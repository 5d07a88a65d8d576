use Rattle.trace_merge.proofs.Words.{◌≡◌, ◌≤◌, ◌++◌, ◌∷◌, ◌∙◌, ℕ, zero, suc, List, [], Option, None, Some, Ordering, Less, IsTrue, IsPermutation, All, All-tail, AllPass-from_list_all, get_or, ap, sym, subst, arith, append_assoc, both_true, true, EntryRecord, is_before, is_less, is_rising}
use Rattle.{process_api.proofs.KeyOrder.{ticks_rise}, std.proofs.lemmas.List.Elements.{All-push}, std.specs.Prelude.{option_to_list}}
use Rattle.trace_merge.proofs.by_tick.Lane.take_up_to.Goals as goal

less_is : (r : Ordering) → is_less r ≡ true → r ≡ Less
less_is r h = grind arith

least : (x : EntryRecord) (xs : List EntryRecord) → IsTrue (is_rising (x ∷ xs)) → All (λ e. x.key.tick ≤ e.key.tick) (x ∷ xs)
least x xs r zero d low = omega arith
least x xs r (suc k) d low = ticks_rise x.key _ (less_is _ (AllPass-from_list_all (λ f. is_before x.key f.key) xs (both_true _ _ r).0 k d (omega (arith, low))))

-- the first has the least tick
first_least : (es : List EntryRecord) (first d : EntryRecord) → first ≡ get_or es 0 d → IsTrue (is_rising es) → All (λ e. first.key.tick ≤ e.key.tick) es
first_least [] first d is r = λ k f low. absurd (omega (arith, low))
first_least (x ∷ xs) first d is r = subst (λ (f : EntryRecord). All (λ e. f.key.tick ≤ e.key.tick) (x ∷ xs)) (sym is) (least x xs r)

left : (o : Option EntryRecord) (es rest : List EntryRecord) (next : ℕ) → es ≡ option_to_list o ++ rest → IsTrue (is_rising es) → All (λ e. next ≤ e.key.tick) es → IsTrue (is_rising rest) × All (λ e. next ≤ e.key.tick) rest
left None es rest next is r late = (subst (λ xs. IsTrue (is_rising xs)) is r, subst (All (λ e. next ≤ e.key.tick)) is late)
left (Some x) es rest next is r late =
    ((both_true _ _ (subst (λ xs. IsTrue (is_rising xs)) is r)).1, All-tail (λ e. next ≤ e.key.tick) x rest (subst (All (λ e. next ≤ e.key.tick)) is late))

pub returns-then-tick-self-clause-late : goal.returns-then-tick-self-clause-late
returns-then-tick-self-clause-late c = λ k d low. omega (arith, c.args.self.now.late k d low, c.if-tick-self.true)

pub returns-then-tick-next-clause-late : goal.returns-then-tick-next-clause-late
returns-then-tick-next-clause-late c =
    let all = first_least c.loop-first.self.rest.items _ _ (c.first.view_is ∙ c.in-Some.ensures.lookup) c.loop-first.self.rising in
    λ k d low. omega (arith, c.if-tick-next.true, all k d low)

pub invariant_of-self : goal.invariant_of-self
invariant_of-self c = record {
  rising = c.loop-first.self.rising;
  late = first_least c.loop-first.self.rest.items _ _ (c.first.view_is ∙ c.in-Some.ensures.lookup) c.loop-first.self.rising;
}

pub invariant_of-self-in-Some : goal.invariant_of-self-in-Some
invariant_of-self-in-Some c =
    let was = c.loop-first.self in
    let both = left c.pop_front.result was.rest.items c.pop_front.new.self.items was.next c.pop_front.ensures.items was.rising was.late in
    record { rising = both.0; late = both.1 }

pub loop-first-preserved : goal.loop-first-preserved
loop-first-preserved c =
    let was = c.loop-first.merged.entries.items in
    let entry = c.in-Some-pop_front.entry in
    let rest = c.pop_front.new.self.items in
    let gone : c.loop-first.self.rest.items ≡ entry ∷ rest = c.in-Some-pop_front.ensures.items in
    let more : c.push.new.self.entries.items ≡ was ++ entry ∷ [] = c.in_ok-push.ensures.more in
    let P : EntryRecord → Type 0 = λ e. e.key.tick ≤ c.args.tick in
    let same : c.first.inside.key.tick ≡ entry.key.tick = ap (λ (e : EntryRecord). e.key.tick) (c.first.view_is ∙ (c.in-Some.ensures.lookup ∙ ap (λ xs. get_or xs 0 c.in-Some.first.now) gone)) in
    record {
      same = subst (IsPermutation _) (ap (λ xs. was ++ xs) gone ∙ (sym (append_assoc was (entry ∷ []) rest) ∙ ap (λ xs. xs ++ rest) (sym more))) c.loop-first.invariant.same;
      early = λ all. subst (All P) (sym more) (All-push P was entry (c.loop-first.invariant.early all) (omega (arith, c.if-tick-next.false, same)));
    }
