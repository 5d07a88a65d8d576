use Rattle.judges.proofs.Words.{◌≡◌, ◌-◌, ◌<◌, suc, refl, ap, ◌∙◌, arith, get_or, set, length, List, vec_len, inl, inr, cases_lt, false≢true, EntryRecord, outcome, all_noted, Outcome}
use Rattle.judges.proofs.Outcoming.{outcomes-own, outcomes-other, outcomes-at, length-outcomes}
use Rattle.judges.proofs.outcomes.RunningOutcomes.feed.Goals as goal

pub returns-in-Some : goal.returns-in-Some
returns-in-Some c = λ n trace is.
    let receiver : c.entry.inside.key.receiver ≡ c.args.entry.now.key.receiver = ap (λ (e : EntryRecord). e.key.receiver) c.entry.view_is in
    let own : c.args.entry.now.key.receiver ≡ suc (c.from-place.result - 1) = omega (arith, receiver, c.from-place.ensures, c.number.ensures.value, c.number.ensures.low) in
    let small : c.from-place.result - 1 < n = omega (arith, c.in-Some.ensures.variant.0 refl, c.args.self.now.outcomes.ok.0, ap length is, length-outcomes trace n) in
    let old : c.in-Some.outcome.now ≡ outcome trace (suc (c.from-place.result - 1))
    = c.in-Some.ensures.value ∙ ap (λ (os : List Outcome). get_or os (c.from-place.result - 1) c.in-Some.outcome.now) is ∙ outcomes-at trace n (c.from-place.result - 1) c.in-Some.outcome.now small in
    ap (λ (os : List Outcome). set os (c.from-place.result - 1) c.note_all.new.outcome) is
    ∙ outcomes-own trace c.args.entry.now n (c.from-place.result - 1) own small c.note_all.new.outcome
    (c.note_all.ensures
    ∙ ap (λ o. all_noted o c.entry.inside.key.tick c.as_slice.result.now) old
    ∙ ap (all_noted (outcome trace (suc (c.from-place.result - 1))) c.entry.inside.key.tick) c.as_slice.ensures.value
    ∙ ap (λ (e : EntryRecord). all_noted (outcome trace (suc (c.from-place.result - 1))) e.key.tick e.notes) c.entry.view_is)

pub returns-in_default : goal.returns-in_default
returns-in_default c = λ n trace is.
    let receiver : c.entry.inside.key.receiver ≡ c.args.entry.now.key.receiver = ap (λ (e : EntryRecord). e.key.receiver) c.entry.view_is in
    is ∙ outcomes-other trace c.args.entry.now n (elim (cases_lt (c.from-place.result - 1) (vec_len c.args.self.now.outcomes)) [
      | inl l ↦ absurd (false≢true (c.in_default.ensures.variant.1 l))
      | inr l ↦ omega (arith, l, receiver, c.from-place.ensures, c.number.ensures.value, c.number.ensures.low, c.args.self.now.outcomes.ok.0, ap length is, length-outcomes trace n)
    ])
