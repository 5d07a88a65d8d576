use Rattle.promised.proofs.Words.{◌≡◌, ◌++◌, filter, map, range_with_len, is_watched, watched_link, watch_of}
use Rattle.promised.proofs.watching.push_links.Given as goal

abbrev pub invariant-loop-before : goal.invariant-loop-before
invariant-loop-before l =
    let S = l.scenario in
    l.links.items
    ≡ l.fn.links.items ++ map (watched_link S l.observer)
    (filter (is_watched l.observer S.processes (watch_of S.detector)) (range_with_len 1 l.before))
