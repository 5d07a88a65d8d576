use Rattle.consensus_es.proofs.Words.{◌≡◌, ◌∙◌, ℕ, zero, suc, None, refl, sym, ap, best_to, better, in_row}
use Rattle.consensus_es.proofs.progress.best.Goals as goal

none_best : (n : ℕ) → best_to n (λ q. None) ≡ None
none_best zero = refl
none_best (suc n) = ap (λ z. better z None) (none_best n)

pub returns-in_default : goal.returns-in_default
returns-in_default c =
    let n = c.args.membership.now.processes in
    sym (none_best n) ∙ ap (λ o. best_to n (in_row o)) c.in_default.ensures
