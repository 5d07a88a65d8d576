use Rattle.study.proofs.Basics.{◌≡◌, drop, list_any, same_pair}
use Rattle.study.proofs.laid_tables.is_pair_laid.Given as goal

abbrev pub invariant-loop-link : goal.invariant-loop-link
invariant-loop-link l =
    list_any (λ x. same_pair (l.from, l.to) (x.from, x.to)) l.laid
    ≡ list_any (λ x. same_pair (l.from, l.to) (x.from, x.to)) (drop l.link-index l.laid)
