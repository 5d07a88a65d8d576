use Rattle.study.proofs.Basics.{◌≡◌, ◌++◌, map, filter, drop, not, view, is_laid}
use Rattle.study.proofs.laid_tables.other_links.Given as goal

abbrev pub invariant-loop-value : goal.invariant-loop-value
invariant-loop-value l =
    map view l.others.items ++ filter (λ d. not (is_laid l.laid d)) (map view (drop l.value-index l.values))
    ≡ filter (λ d. not (is_laid l.laid d)) (map view l.values)
