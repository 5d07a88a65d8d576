use Rattle.windows.proofs.Words.{◌≡◌, ◌∙◌, ◌++◌, ◌∷◌, [], ◌+◌, ◌<◌, suc, ap, sym, subst, arith, append_assoc, append-nil, drop, drop-cons, drop-set-lt, length, length-drop, slice_set, nil_from_length, Event, IsParted}
use Rattle.windows.proofs.agenda.Parted.file_events.Goals as goal

pub loop-place-preserved : goal.loop-place-preserved
loop-place-preserved c end es h =
    let i = c.loop-place.invariant end es h in
    let all = c.loop-place.events.items in
    let place = c.loop-place.place in
    let e : Event = c.take.result in
    let rest = drop (place + 1) (slice_set all place c.take.new.self) in
    let inside : place < length all = omega (arith, c.loop-place-test.true, c.len.ensures, c.loop-place.events.ok.0) in
    let next : suc place ≡ place + 1 = omega arith in
    let is : e ≡ _ = c.take.ensures ∙ c.index_mut.ensures.value in
    let same : rest ≡ drop (place + 1) all = drop-set-lt (place + 1) all place c.take.new.self (omega arith) in
    let first : drop place all ≡ e ∷ rest = drop-cons all place c.index_mut.result.now inside ∙ (λ j. sym is j ∷ (ap (λ n. drop n all) next ∙ sym same) j) in
    (i.0 ++ e ∷ [], append_assoc i.0 (e ∷ []) rest ∙ (ap (λ r. i.0 ++ r) (sym first) ∙ i.1), c.in_ok-file.ensures end i.0 i.2)

pub returns : goal.returns
returns c end es h =
    let i = c.loop-place.invariant end es h in
    let all = c.loop-place.events.items in
    let none = nil_from_length (drop c.loop-place.place all) (omega (arith, length-drop c.loop-place.place all, c.loop-place-test.false, c.len.ensures, c.loop-place.events.ok.0)) in
    subst (λ l. IsParted end l c.loop-place.self) (sym (append-nil i.0) ∙ (ap (λ r. i.0 ++ r) (sym none) ∙ i.1)) i.2
