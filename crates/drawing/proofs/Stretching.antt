-- The stretches that are found are all maximal ones, in order.
use Rattle.drawing.proofs.Words.{◌≡◌, ℕ, zero, suc, ◌+◌, ◌-◌, ◌<◌, ◌≤◌, Bool, true, false, cond, inl, inr, refl, sym, ap, ◌∙◌, subst, arith, ltb, Option, None, Some, List, [], ◌∷◌, ◌++◌, Contains, get_or, cases_lt, lt-ltb, le-ltb, true≢false, get_or_default, Contains-append_left, Contains-push, Contains-push_cases, Found, passed_by, passed, found, stretches, Bar}
use Rattle.{std.specs.List.{AllPairs}, std.proofs.lemmas.List.Quantifiers.{all_pairs_push}}
use Rattle.drawing.specs.Suspicions.{IsMaximal, AreBars}

module _ (test : ℕ → Bool) (from : ℕ) where
  -- a stretch that goes on up to a tick
  record IsRunning (begin last : ℕ) : Type 0 where
    low : from ≤ begin
    some : begin < last
    holds : (t : ℕ) → begin ≤ t → t < last → test t ≡ true
    not_before : (t : ℕ) → from ≤ t → suc t ≡ begin → test t ≡ false

  -- a stretch that ended
  record IsStretch (b : Bar) : Type 0 where
    runs : IsRunning b.begin b.end
    ended : test b.end ≡ false

  abbrev IsOpen : (last : ℕ) → Option ℕ → Type 0
  IsOpen last None = (t : ℕ) → from ≤ t → suc t ≡ last → test t ≡ false
  IsOpen last (Some begin) = IsRunning begin last

  record IsFound (last : ℕ) (ended : List Bar) (running : Option ℕ) : Type 0 where
    sound : (b : Bar) → Contains ended b → IsStretch b × (b.end < last)
    whole : (b : Bar) → IsStretch b → b.end < last → Contains ended b
    in_order : AllPairs (λ b c. b.end < c.begin) ended
    goes_on : IsOpen last running

  opposite : (t : ℕ) → test t ≡ true → test t ≡ false → ⊥
  opposite t x y = true≢false (sym x ∙ y)

  not_later : (last a b : ℕ) → IsRunning a last → IsRunning b last → a < b → ⊥
  not_later last a b x y l =
      opposite (b - 1) (x.holds (b - 1) (omega arith) (omega (arith, y.some))) (y.not_before (b - 1) (omega (arith, x.low)) (omega arith))

  one_begin : (last a b : ℕ) → IsRunning a last → IsRunning b last → a ≡ b
  one_begin last a b x y =
      elim (cases_lt a b) [
        | inl l ↦ absurd (not_later last a b x y l)
        | inr l ↦ elim (cases_lt b a) [ inl m ↦ absurd (not_later last b a y x m) | inr m ↦ omega arith ]
      ]

  -- where no stretch ends at a tick, what was found stays
  unchanged : (last : ℕ) (ended : List Bar) (running then : Option ℕ) → IsFound last ended running → ((b : Bar) → IsStretch b → b.end ≡ last → ⊥)
      → IsOpen (suc last) then → IsFound (suc last) ended then
  unchanged last ended running then f none goes_on = record {
    sound = λ b c. ((f.sound b c).0, omega (arith, (f.sound b c).1));
    whole = λ b s m. elim (cases_lt b.end last) [ inl x ↦ f.whole b s x | inr x ↦ absurd (none b s (omega arith)) ];
    in_order = f.in_order;
    goes_on = goes_on;
  }

  -- as the test holds there
  still : (last : ℕ) → test last ≡ true → (b : Bar) → IsStretch b → b.end ≡ last → ⊥
  still last e b s at = opposite last e (rw (← at) s.ended)

  one_more : (last : ℕ) (holds : Bool) → test last ≡ holds → from ≤ last → (ended : List Bar) (running : Option ℕ) → IsFound last ended running
      → IsFound (suc last) (passed_by last holds ended running).ended (passed_by last holds ended running).running
  one_more last true e l ended None f = unchanged last ended None (Some last) f (still last e) (record {
    low = l;
    some = omega arith;
    holds = λ t x y. let at : last ≡ t = omega arith in subst (λ t. test t ≡ true) at e;
    not_before = f.goes_on;
  })
  one_more last false e l ended None f = unchanged last ended None None f
      (λ b s at. opposite (last - 1) (s.runs.holds (last - 1) (omega (arith, s.runs.some)) (omega (arith, s.runs.some)))
      (f.goes_on (last - 1) (omega (arith, s.runs.some, s.runs.low)) (omega (arith, s.runs.some))))
      (λ t x y. let at : last ≡ t = omega arith in subst (λ t. test t ≡ false) at e)
  one_more last true e l ended (Some begin) f = unchanged last ended (Some begin) (Some begin) f (still last e) (record {
    low = f.goes_on.low;
    some = omega (arith, f.goes_on.some);
    holds = λ t x y. elim (cases_lt t last) [
      | inl z ↦ f.goes_on.holds t x z
      | inr z ↦ let at : last ≡ t = omega arith in subst (λ t. test t ≡ true) at e
    ];
    not_before = f.goes_on.not_before;
  })
  one_more last false e l ended (Some begin) f = record {
    sound = λ b c. elim (Contains-push_cases ended (record { begin = begin; end = last }) b c) [
      | inl d ↦ ((f.sound b d).0, omega (arith, (f.sound b d).1))
      | inr same ↦ subst (λ (b : Bar). IsStretch b × (b.end < suc last)) same (record { runs = f.goes_on; ended = e }, omega arith)
    ];
    whole = λ b s m. elim (cases_lt b.end last) [
      | inl x ↦ Contains-append_left ended (record { begin = begin; end = last } ∷ []) b (f.whole b s x)
      | inr x ↦
          let at : b.end ≡ last = omega arith in
          let first = one_begin last b.begin begin (subst (λ t. IsRunning b.begin t) at s.runs) f.goes_on in
          let same : record { begin = begin; end = last } ≡ b = rw (← first, ← at) refl in
          subst (λ (c : Bar). Contains (ended ++ record { begin = begin; end = last } ∷ []) c) same (Contains-push ended (record { begin = begin; end = last }))
    ];
    in_order = all_pairs_push (λ b c. b.end < c.begin) ended (record { begin = begin; end = last }) f.in_order
        (λ k d x.
        let b = get_or ended k d in
        let s = f.sound b (k, x, get_or_default ended k b d x) in
        elim (cases_lt b.end begin) [
          | inl y ↦ y
          | inr y ↦ absurd (opposite b.end (f.goes_on.holds b.end y s.1) s.0.ended)
        ]);
    goes_on = λ t x y. let at : last ≡ t = omega arith in subst (λ t. test t ≡ false) at e;
  }

  first : IsFound from [] None
  first = record {
    sound = λ b c. absurd (omega (arith, c.1));
    whole = λ b s l. absurd (omega (arith, s.runs.low, s.runs.some));
    in_order = λ i j d x y. absurd (omega arith);
    goes_on = λ t x y. absurd (omega arith);
  }

  all_found : (n : ℕ) → IsFound (from + n) (found test from n).ended (found test from n).running
  all_found zero = subst (λ t. IsFound t [] None) (let e : from ≡ from + 0 = omega arith in e) first
  all_found (suc n) =
      subst (λ t. IsFound t (found test from (suc n)).ended (found test from (suc n)).running) (let e : suc (from + n) ≡ from + suc n = omega arith in e)
      (one_more (from + n) (test (from + n)) refl (omega arith) (found test from n).ended (found test from n).running (all_found n))

-- only the ticks that are behind matter
pub found_same : (f g : ℕ → Bool) (from n : ℕ) → ((u : ℕ) → from ≤ u → u < from + n → f u ≡ g u) → found f from n ≡ found g from n
found_same f g from zero e = refl
found_same f g from (suc n) e =
    ap (λ b. passed (from + n) b (found f from n)) (e (from + n) (omega arith) (omega arith))
    ∙ ap (passed (from + n) (g (from + n))) (found_same f g from n (λ u x y. e u x (omega arith)))

module _ (test : ℕ → Bool) (from until : ℕ) where
  -- the test, as if it failed at the end
  abbrev cut : ℕ → Bool
  cut t = cond (ltb t until) (test t) false

  cut_early : (t : ℕ) → t < until → cut t ≡ test t
  cut_early t l = ap (λ b. cond b (test t) false) (lt-ltb t until l)

  cut_late : (t : ℕ) → until ≤ t → cut t ≡ false
  cut_late t l = ap (λ b. cond b (test t) false) (le-ltb t until l)

  maximal : (b : Bar) → IsStretch cut from b → b.end < suc until → IsMaximal test from until b
  maximal b s l = record {
    low = s.runs.low;
    some = s.runs.some;
    high = omega arith;
    holds = λ t x y. sym (cut_early t (omega arith)) ∙ s.runs.holds t x y;
    not_before = λ t x y. sym (cut_early t (omega (arith, s.runs.some))) ∙ s.runs.not_before t x y;
    not_after = λ x. sym (cut_early b.end x) ∙ s.ended;
  }

  stretch : (b : Bar) → IsMaximal test from until b → IsStretch cut from b
  stretch b m = record {
    runs = record {
      low = m.low;
      some = m.some;
      holds = λ t x y. cut_early t (omega (arith, m.high)) ∙ m.holds t x y;
      not_before = λ t x y. cut_early t (omega (arith, m.some, m.high)) ∙ m.not_before t x y;
    };
    ended = elim (cases_lt b.end until) [ inl l ↦ cut_early b.end l ∙ m.not_after l | inr l ↦ cut_late b.end l ];
  }

  some_ticks : from ≤ until → AreBars test from until (stretches test from until)
  some_ticks l =
      let n = until - from in
      let e : from + n ≡ until = omega arith in
      let same : found test from n ≡ found cut from n = found_same test cut from n (λ u x y. sym (cut_early u (omega arith))) in
      let all : IsFound cut from until (found test from n).ended (found test from n).running
      = subst (λ (f : Found). IsFound cut from until f.ended f.running) (sym same) (subst (λ t. IsFound cut from t (found cut from n).ended (found cut from n).running) e (all_found cut from n)) in
      let h = one_more cut from until false (cut_late until (omega arith)) l (found test from n).ended (found test from n).running all in
      record {
        all = λ b. (λ c. maximal b (h.sound b c).0 (h.sound b c).1, λ m. h.whole b (stretch b m) (omega (arith, m.high)));
        in_order = h.in_order;
      }

  no_ticks : until < from → AreBars test from until (stretches test from until)
  no_ticks l =
      subst (AreBars test from until) (ap (λ n. (passed until false (found test from n)).ended) (let e : 0 ≡ until - from = omega arith in e))
      (record {
        all = λ b. (λ c. absurd (omega (arith, c.1)), λ m. absurd (omega (arith, m.low, m.some, m.high)));
        in_order = λ i j d x y. absurd (omega arith);
      })

  pub stretches_are_bars : AreBars test from until (stretches test from until)
  stretches_are_bars = elim (cases_lt until from) [ inl l ↦ no_ticks l | inr l ↦ some_ticks l ]

-- bars of a test are those of one that is the same at the ticks asked for
pub stretches_same : (f g : ℕ → Bool) (from until : ℕ) → ((u : ℕ) → u < until → f u ≡ g u) → stretches f from until ≡ stretches g from until
stretches_same f g from until e =
    ap (λ (x : Found). (passed until false x).ended) (found_same f g from (until - from) (λ u x y. e u (omega arith)))
