-- What a track knows as it goes on, and what it tells at the end.
use Rattle.judges.proofs.Words.{◌≡◌, ℕ, zero, suc, ◌-◌, ◌<◌, ◌≤◌, min, Bool, true, false, cond, not, ◌&&◌, ◌||◌, inl, inr, refl, sym, ap, ◌∙◌, subst, arith, ltb, None, Some, cases_lt, lt-ltb, le-ltb, le-leb, lt-leb, cond-true, cond-false, cond_both, both_ways, false_from_ne_true, nat_tests, or-false, or-true, beq, any_below, all_from, before, Track}
use Rattle.judges.proofs.{Below.{any_below-from}, Lasting.{all_from-at, all_from-from, last_before}, Standing.{IsKeeping, same_from_beq}}
use Rattle.judges.specs.{Inside.Private.{Knows, IsSteady}, Track.{IsReached, new_track, gone, passed, suspected_from, trusted_from}}

before_last : (f : ℕ → Bool) (a b : ℕ) (now : Bool) → a < b → ((u : ℕ) → a ≤ u → u < b → f u ≡ now) → before f b ≡ now
before_last f a zero now l same = absurd (omega arith)
before_last f a (suc v) now l same = same v (omega arith) (omega arith)

-- `any` over a stretch of one state
any_below-flat : (f : ℕ → Bool) (a b : ℕ) → a ≤ b → ((u : ℕ) → a ≤ u → u < b → f u ≡ false) → any_below f b ≡ any_below f a
any_below-flat f a zero l h = ap (any_below f) (let e : 0 ≡ a = omega arith in e)
any_below-flat f a (suc t) l h =
    elim (cases_lt t a) [
      | inl p ↦ ap (any_below f) (let e : suc t ≡ a = omega arith in e)
      | inr p ↦ ap (λ x. x || any_below f t) (h t p (omega arith)) ∙ any_below-flat f a t p (λ u x y. h u x (omega arith))
    ]

module _ (f : ℕ → Bool) (end : ℕ) where
  any_stretch : (a b : ℕ) (now : Bool) → a < b → ((u : ℕ) → a ≤ u → u < b → f u ≡ now) → (any_below f (min a end) || (now && ltb a end)) ≡ any_below f (min b end)
  any_stretch a b false l same = or-false _ ∙ sym (any_below-flat f (min a end) (min b end) (omega arith) (λ u x y. same u (omega arith) (omega arith)))
  any_stretch a b true l same =
      elim (cases_lt a end) [
        | inl p ↦ ap (λ x. any_below f (min a end) || x) (lt-ltb a end p) ∙ or-true _ ∙ sym (any_below-from f (min b end) a (omega arith) (same a (omega arith) l))
        | inr p ↦ ap (λ x. any_below f (min a end) || x) (le-ltb a end p) ∙ or-false _ ∙ ap (any_below f) (let e : min a end ≡ min b end = omega arith in e)
      ]

  other : (x y : Bool) → beq x y ≡ false → y ≡ not x
  other x y e = grind arith

  steady_on : (was now : Bool) (since a b : ℕ) → a < b → IsSteady f was since a → before f a ≡ was → ((u : ℕ) → a ≤ u → u < b → f u ≡ now) → (r : Bool) → beq now was ≡ r → IsSteady f now (cond r since a) b
  steady_on was now since a b l s e same true is =
      let eq : now ≡ was = same_from_beq now was is in
      record {
        below = omega (arith, s.below);
        on = λ u x y. elim (cases_lt u a) [ inl p ↦ s.on u x p ∙ sym eq | inr p ↦ same u p y ];
        not_before = λ v h. s.not_before v h ∙ ap not (sym eq);
      }
  steady_on was now since a b l s e same false is = record { below = omega arith; on = same; not_before = λ v h. ap (before f) (sym h) ∙ e ∙ other now was is }

  knows_gone : (t : Track) (until : ℕ) (now : Bool) → t.tick < until → Knows f end t → ((u : ℕ) → t.tick ≤ u → u < until → f u ≡ now) → Knows f end (gone until now end t)
  knows_gone t until now l k same = record {
    was = sym (before_last f t.tick until now l same);
    steady = steady_on t.was now t.since t.tick until l k.steady (sym k.was) same (beq now t.was) refl;
    mistaken = ap (λ x. x || (now && ltb t.tick end)) k.mistaken ∙ any_stretch t.tick until now l same;
  }

  knows_passed : (t : Track) (until : ℕ) (now : Bool) → Knows f end t → ((u : ℕ) → t.tick ≤ u → u < until → f u ≡ now) → Knows f end (passed until now end t)
  knows_passed t until now k same =
      elim (cases_lt t.tick until) [
        | inl l ↦ subst (Knows f end) (sym (cond-true _ _ _ (lt-ltb t.tick until l))) (knows_gone t until now l k same)
        | inr l ↦ subst (Knows f end) (sym (cond-false _ _ _ (le-ltb t.tick until l))) k
      ]

  pub none_known : Knows f end new_track
  none_known = record {
    was = refl;
    steady = record { below = omega arith; on = λ u x y. absurd (omega arith); not_before = λ v e. absurd (omega arith) };
    mistaken = ap (any_below f) (let e : 0 ≡ min 0 end = omega arith in e);
  }

passed_tick : (t : Track) (until : ℕ) (now : Bool) (end : ℕ) → t.tick ≤ until → (passed until now end t).tick ≡ until
passed_tick t until now end l = grind (arith, nat_tests)

pub tracks_keep : IsKeeping passed (λ (t : Track). t.tick) Knows
tracks_keep = record { ticks = passed_tick; knows = λ f end t until now k same. knows_passed f end t until now k same }

-- what a track tells of the ticks below its own
module _ (f : ℕ → Bool) (tick : ℕ) where
  nothing_lasts : before f tick ≡ false → (u : ℕ) → u < tick → all_from f u tick ≡ false
  nothing_lasts e u l = false_from_ne_true _ (λ all. let last = last_before f tick e u l in both_ways (f last.0) last.3 (all_from-at f u tick last.0 all last.1 last.2))

  lasts_from : (s : ℕ) → ((u : ℕ) → s ≤ u → u < tick → f u ≡ true) → ((v : ℕ) → s ≡ suc v → f v ≡ false) → s ≤ tick - 1 → IsReached (λ u. all_from f u tick) tick (Some s)
  lasts_from s on not_before below u l =
      elim (cases_lt u s) [
        | inl p ↦ nothing (last_before f s (early s refl) u p) ∙ sym (lt-leb s u p)
        | inr p ↦ all_from-from f u tick (λ v x y. on v (omega arith) y) ∙ sym (le-leb s u p)
      ]
    where
      early : (n : ℕ) → s ≡ n → before f n ≡ false
      early zero e = refl
      early (suc v) e = not_before v e

      nothing : (v : ℕ) × (u ≤ v) × (v < s) × (f v ≡ false) → all_from f u tick ≡ false
      nothing last = false_from_ne_true _ (λ all. both_ways (f last.0) last.3 (all_from-at f u tick last.0 all last.1 (omega (arith, last.2))))

before_not : (f : ℕ → Bool) (t : ℕ) → 0 < t → before (λ u. not (f u)) t ≡ not (before f t)
before_not f zero l = absurd (omega arith)
before_not f (suc v) l = refl

pub suspected_reached : (f : ℕ → Bool) (end : ℕ) (t : Track) → Knows f end t → IsReached (λ u. all_from f u t.tick) t.tick (suspected_from t)
suspected_reached f end t k = cond_both t.was (Some t.since) None (IsReached (λ u. all_from f u t.tick) t.tick)
    (λ e. lasts_from f t.tick t.since (λ u x y. k.steady.on u x y ∙ e) (λ v h. k.steady.not_before v h ∙ ap not e) k.steady.below)
    (λ e. nothing_lasts f t.tick (sym k.was ∙ e))

pub trusted_reached : (f : ℕ → Bool) (end : ℕ) (t : Track) → 0 < t.tick → Knows f end t → IsReached (λ u. all_from (λ v. not (f v)) u t.tick) t.tick (trusted_from t)
trusted_reached f end t some k = cond_both t.was None (Some t.since) (IsReached (λ u. all_from (λ v. not (f v)) u t.tick) t.tick)
    (λ e. nothing_lasts (λ v. not (f v)) t.tick (before_not f t.tick some ∙ ap not (sym k.was ∙ e)))
    (λ e. lasts_from (λ v. not (f v)) t.tick t.since (λ u x y. ap not (k.steady.on u x y ∙ e)) (λ v h. ap not (k.steady.not_before v h ∙ ap not e)) k.steady.below)
