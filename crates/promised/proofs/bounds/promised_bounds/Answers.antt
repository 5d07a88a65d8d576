use Rattle.promised.proofs.{Words.{◌≡◌, rules, subst, sym, KeepsPromises, watched_links, promised}, Promising.{same_numbers}, Keeping.{promises_kept}}
use Rattle.promised.proofs.bounds.promised_bounds.Goals as goal

pub returns-clause-value : goal.returns-clause-value
returns-clause-value c =
    let S = c.args.scenario.now in
    let detector : c.detector-detector.result ≡ S.detector = c.detector-detector.ensures.value in
    let horizon : c.horizon-horizon.result ≡ S.horizon = c.horizon-horizon.ensures.value in
    let links : c.in_ok-links.links.items ≡ watched_links S = c.in_ok-links.ensures in
    same_numbers _ (promised S)
    (rw (c.greatest_latency.ensures, c.deref.ensures.value, links, detector))
    (rw (c.is_any_late.ensures, c.deref-2.ensures.value, links, detector, horizon))
    (search rules)
    (rw (c.count_reliable.ensures, c.deref-3.ensures.value, links, detector))
    (rw (c.count_lossy.ensures, c.deref-4.ensures.value, links))
    (rw (c.greatest_needed.ensures, c.deref-5.ensures.value, links, detector))

pub returns-clause-kept : goal.returns-clause-kept
returns-clause-kept c =
    let S = c.args.scenario.now in
    subst (KeepsPromises S) (sym (returns-clause-value c)) (promises_kept S c.horizon-horizon.ensures.ranges)
