use Rattle.std.proofs.{Common.{◌∙◌, ◌||◌, ap}, lemmas.Cmp.{nat_cmp_total}}
use Rattle.std.specs.FinSet as set
use Rattle.process_api.proofs.row.Row.heard_or.Goals as goal

pub returns : goal.returns
returns g c q =
    ap (λ s. set.contains s q) c.union.ensures
    ∙ (set.contains-union nat_cmp_total c.args.self.now.senders c.args.others.now q ∙ ap (λ b. b || set.contains c.args.others.now q) (c.args.self.now.counted q))
