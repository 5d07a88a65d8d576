use Rattle.windows.proofs.Words.{[], sym, subst, append-nil, IsPermutation, IsPermutation-refl, in_box}
use Rattle.windows.specs.Inside.Agenda.{HasFiled}
use Rattle.windows.proofs.agenda.Parted.file_inbox.Goals as goal

pub returns-in-None-clause-filed : goal.returns-in-None-clause-filed
returns-in-None-clause-filed g c =
    let p = c.args.self.now in
    ([], subst (λ box. IsPermutation (in_box box) []) (sym c.in-None.is) (IsPermutation-refl []), λ first so_far had. subst (HasFiled first p) (sym (append-nil so_far)) had)
