use Rattle.reporting.proofs.{Words.{◌≡◌, true, length, refl, arith, with_items_is, AreCaught, lists_in}, Listing.{closes_caught, same_length}}
use Rattle.reporting.proofs.durations.Durations.close.Goals as goal

pub returns-in_ok-catch_up : goal.returns-in_ok-catch_up
returns-in_ok-catch_up c = λ S layer trace h metering.
    let d = c.args.self.now in
    let pairs = c.args.counts.now in
    let new = c.catch_up.new.pairs in
    let end : c.len-end.result ≡ length d.pairs.items = omega (arith, c.len-end.ensures, d.pairs.ok.0) in
    let at : AreCaught pairs true 0 (length d.pairs.items) (lists_in d.pairs.items) (lists_in new) = rw (end, c.deref_mut.ensures.value) at c.in_ok-catch_up.ensures in
    closes_caught S layer trace d h pairs metering _ refl (rw (with_items_is d.pairs new (same_length d.pairs new at.count)) at)
