use Rattle.drawing.proofs.Words.{◌≡◌, ℕ, List, false, true, ◌<◌, ◌≤◌, ◌+◌, ◌++◌, ◌∷◌, [], max, sym, ap, ◌∙◌, arith, take, length, get_or, take_more, take_all, fold-append, IfOk-weaker, AreUntil, turns, EntryRecord, after_all}
use Rattle.drawing.proofs.Stretching.{stretches_same}
use Rattle.{judges.proofs.{Order.{before_at}, Turns.{suspects_is, turns_more}}, judges.specs.Out.{suspects}}
use Rattle.process_api.specs.Order.{is_rising}
use Rattle.drawing.proofs.bars.stretches_of.Goals as goal

-- entries up to a tick
until_front : (xs : List EntryRecord) (e : EntryRecord) (m : ℕ) → AreUntil (xs ++ e ∷ []) m → AreUntil xs m
until_front [] e m h = tt
until_front (x ∷ xs) e m h = (h.0, until_front xs e m h.1)

until_last : (xs : List EntryRecord) (e : EntryRecord) (m : ℕ) → AreUntil (xs ++ e ∷ []) m → e.key.tick ≤ m
until_last [] e m h = h.0
until_last (x ∷ xs) e m h = until_last xs e m h.1

pub loop-entry-preserved : goal.loop-entry-preserved
loop-entry-preserved c =
    let trace = c.args.trace.now in
    let i = c.loop-entry.entry-index in
    let entry = c.entry-item.result in
    let same : c.entries-entry-items.result.now ≡ trace = c.entries-entry-items.ensures.value in
    let within : i < length trace = rw (← same) c.loop-entry-test.true in
    let is : entry ≡ get_or trace i entry = c.entry-item.is ∙ ap (λ xs. get_or xs i entry) same in
    let more : take (i + 1) trace ≡ take i trace ++ entry ∷ [] = take_more trace i entry within ∙ ap (λ e. take i trace ++ e ∷ []) (sym is) in
    let rising : is_rising trace ≡ true = rw (← same) c.entries-entry-items.ensures.rising in
    let behind : AreUntil (take i trace) entry.key.tick = rw is (before_at trace i entry within rising) in
    record {
      swept = rw (more, turns_more c.args.layer c.args.observer c.args.subject c.args.until (take i trace) entry, fold-append)
          (c.in_ok-feed.ensures.swept _ c.args.from c.loop-entry.invariant.swept (c.loop-entry.invariant.reached entry.key.tick behind));
      reached = λ m h.
          let all : AreUntil (take i trace ++ entry ∷ []) m = rw (← more) h in
          let front : c.loop-entry.sweep.tick ≤ max c.args.from m = c.loop-entry.invariant.reached m (until_front (take i trace) entry m all) in
          let last : entry.key.tick ≤ m = until_last (take i trace) entry m all in
          omega (arith, c.in_ok-feed.ensures.tick);
      within = omega (arith, c.in_ok-feed.ensures.below, c.loop-entry.invariant.within);
    }

pub returns : goal.returns
returns c =
    let trace = c.args.trace.now in
    let whole = take_all c.loop-entry.entry-index trace (omega (arith, c.loop-entry-test.false, ap length c.entries-entry-items.ensures.value)) in
    let test = after_all (λ _. false) (turns c.args.layer c.args.observer c.args.subject c.args.until trace) in
    IfOk-weaker c.close.result _ _
    (λ v h. h test c.args.from (rw (← whole) c.loop-entry.invariant.swept) c.loop-entry.invariant.within
    ∙ stretches_same test (suspects c.args.layer trace c.args.observer c.args.subject) c.args.from c.args.until
    (λ u below. sym (suspects_is c.args.layer c.args.observer c.args.subject c.args.until u below trace)))
    c.close.ensures
