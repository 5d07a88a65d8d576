use Rattle.reporting.proofs.{Words.{◌≡◌, ◌+◌, ◌-◌, ◌*◌, false, ap, ◌∙◌, refl, arith, with_items_is, EntryRecord, AreCaught, lists_in}, Listing.{follows_above, follows_caught, same_length}}
use Rattle.reporting.proofs.durations.Durations.follow.Goals as goal

pub returns-in_ok-catch_up : goal.returns-in_ok-catch_up
returns-in_ok-catch_up c = λ S layer trace h metering.
    let d = c.args.self.now in
    let e = c.args.entry.now in
    let pairs = c.args.counts.now in
    let receiver : c.number.result ≡ e.key.receiver = c.number.ensures.value ∙ ap (λ (x : EntryRecord). x.key.receiver) c.entry.view_is in
    let number : c.from.result ≡ e.key.receiver = c.from.ensures ∙ receiver in
    let new = c.catch_up.new.pairs in
    let at : AreCaught pairs false ((e.key.receiver - 1) * d.processes) ((e.key.receiver - 1) * d.processes + d.processes) (lists_in d.pairs.items) (lists_in new)
    = rw (number, c.from-processes.ensures, c.deref_mut.ensures.value) at c.in_ok-catch_up.ensures in
    follows_caught S layer trace d h e pairs metering _ refl
    (rw (with_items_is d.pairs new (same_length d.pairs new at.count)) at)
    (omega (arith, c.number.ensures.low, c.number.ensures.value, receiver))

pub returns-else-end-min : goal.returns-else-end-min
returns-else-end-min c = λ S layer trace h metering.
    let d = c.args.self.now in
    let e = c.args.entry.now in
    let pairs = c.args.counts.now in
    let receiver : c.number.result ≡ e.key.receiver = c.number.ensures.value ∙ ap (λ (x : EntryRecord). x.key.receiver) c.entry.view_is in
    let number : c.from.result ≡ e.key.receiver = c.from.ensures ∙ receiver in
    let first : (c.from.result - 1) * c.from-processes.result ≡ (e.key.receiver - 1) * d.processes = (λ i. (number i - 1) * c.from-processes.ensures i) in
    follows_above S layer trace d h e pairs metering
    (omega (arith, c.if-end-min.false, c.min.ensures, c.len.ensures, c.places.ensures, first, c.from-processes.ensures, d.pairs.ok.0))
