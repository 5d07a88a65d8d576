use Rattle.network.proofs.Basics.{◌≡◌, ◌++◌, take, range_with_len, flat_map, option_to_list, laid_on}
use Rattle.network.proofs.laid.push_laid_from.Given as goal

-- those so far
abbrev pub invariant-loop-before : goal.invariant-loop-before
invariant-loop-before l = l.laid.items ≡ l.fn.laid.items
    ++ flat_map (λ to. option_to_list (laid_on l.tables l.from to)) (take l.before (range_with_len 1 l.n))
