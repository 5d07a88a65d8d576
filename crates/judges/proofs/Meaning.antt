-- The tests of the verdicts are the quantifiers.
use Rattle.judges.proofs.Words.{◌≡◌, ℕ, zero, suc, ◌<◌, ◌≤◌, Bool, true, false, cond, not, inl, inr, refl, subst, arith, Option, None, Some, List, cases_lt, lt-ltb, le-ltb, ltb-true, ltb-false, both_ways, and_parts, and_from, not-true, not_from_false, EntryRecord, Record, crash_tick, is_up, is_crashed, is_correct, all_below, all_from, least_below, first_of, suspects, each, some, verdicts}
use Rattle.judges.proofs.{Below.{all_below-at, all_below-from, any_below-from, any_below-some, where_at, where_from}, Lasting.{all_from-at, all_from-from}}
use Rattle.{std.specs.Bool.{Decides}, judges.specs.Verdicts.{IsLeastTick, IsProcess, Suspects, AreVerdicts}}

-- a test that decides a fact at each tick finds the least tick
least_tick : (test : ℕ → Bool) (P : ℕ → Type 0) (end : ℕ) → ((t : ℕ) → Decides (test t) (P t)) → IsLeastTick P end (least_below test end)
least_tick test P zero d = λ t l. absurd (omega arith)
least_tick test P (suc n) d = go (least_below test n) (least_tick test P n d) (test n) refl
  where
    go : (o : Option ℕ) → IsLeastTick P n o → (b : Bool) → test n ≡ b → IsLeastTick P (suc n) (first_of o (cond b (Some n) None))
    go (Some t) h b e = (omega (arith, h.0), h.1, λ u l p. elim (cases_lt u n) [ inl x ↦ h.2 u x p | inr x ↦ omega (arith, h.0) ])
    go None h true e = (omega arith, (d n).0 e, λ u l p. elim (cases_lt u n) [ inl x ↦ absurd (h u x p) | inr x ↦ x ])
    go None h false e = λ t l p. elim (cases_lt t n) [
      | inl x ↦ h t x p
      | inr x ↦ both_ways (test n) e ((d n).1 (subst P (let s : t ≡ n = omega arith in s) p))
    ]

all_decides : (test : ℕ → Bool) (P : ℕ → Type 0) (end : ℕ) → ((t : ℕ) → Decides (test t) (P t)) → Decides (all_below test end) ((t : ℕ) → t < end → P t)
all_decides test P end d = (λ e t l. (d t).0 (all_below-at test end e t l), λ h. all_below-from test end (λ t l. (d t).1 (h t l)))

from_decides : (test : ℕ → Bool) (P : ℕ → Type 0) (start end : ℕ) → ((t : ℕ) → Decides (test t) (P t)) → Decides (all_from test start end) ((u : ℕ) → start ≤ u → u < end → P u)
from_decides test P start end d = (λ e u x y. (d u).0 (all_from-at test start end u e x y), λ h. all_from-from test start end (λ u x y. (d u).1 (h u x y)))

not_decides : (b : Bool) → Decides (not b) (b ≡ true → ⊥)
not_decides true = (λ e. absurd (cc), λ n. absurd (n refl))
not_decides false = (λ e x. cc, λ n. refl)

module _ (S : Record) where
  each_decides : (which test : ℕ → Bool) (W T : ℕ → Type 0) → ((p : ℕ) → Decides (which p) (W p)) → ((p : ℕ) → Decides (test p) (T p)) → Decides (each S which test) ((p : ℕ) → IsProcess S p × W p → T p)
  each_decides which test W T w t =
      (λ e p h. at p e h, λ h. all_below-from _ S.processes (λ i l. where_from (which (suc i)) (test (suc i)) (λ x. (t (suc i)).1 (h (suc i) ((omega arith, omega arith), (w (suc i)).0 x)))))
    where
      at : (p : ℕ) → each S which test ≡ true → IsProcess S p × W p → T p
      at zero e h = absurd (omega (arith, h.0.0))
      at (suc i) e h = (t (suc i)).0 (where_at (which (suc i)) (test (suc i)) (all_below-at _ S.processes e i (omega (arith, h.0.1))) ((w (suc i)).1 h.1))

  some_decides : (which test : ℕ → Bool) (W T : ℕ → Type 0) → ((p : ℕ) → Decides (which p) (W p)) → ((p : ℕ) → Decides (test p) (T p)) → Decides (some S which test) ((p : ℕ) × (IsProcess S p × W p) × T p)
  some_decides which test W T w t = (
    λ e. let s = any_below-some _ S.processes e in let both = and_parts (which (suc s.0)) (test (suc s.0)) s.2 in
        (suc s.0, ((omega arith, omega (arith, s.1)), (w (suc s.0)).0 both.0), (t (suc s.0)).0 both.1),
    λ h. from h.0 h.1 h.2,
  )
    where
      from : (p : ℕ) → IsProcess S p × W p → T p → some S which test ≡ true
      from zero h x = absurd (omega (arith, h.0.0))
      from (suc i) h x = any_below-from _ S.processes i (omega (arith, h.0.1)) (and_from (which (suc i)) (test (suc i)) ((w (suc i)).1 h.1) ((t (suc i)).1 x))

  up_decides : (t p : ℕ) → Decides (is_up S p t) (t < crash_tick S p)
  up_decides t p = (λ e. ltb-true t (crash_tick S p) e, λ l. lt-ltb t (crash_tick S p) l)

  crashed_decides : (p : ℕ) → Decides (is_crashed S p) (crash_tick S p < S.horizon)
  crashed_decides p = (λ e. ltb-true (crash_tick S p) S.horizon e, λ l. lt-ltb (crash_tick S p) S.horizon l)

  correct_decides : (p : ℕ) → Decides (is_correct S p) (S.horizon ≤ crash_tick S p)
  correct_decides p = (λ e. ltb-false (crash_tick S p) S.horizon (not-true (is_crashed S p) e), λ l. not_from_false (is_crashed S p) (le-ltb (crash_tick S p) S.horizon l))

  module _ (trace : List EntryRecord) (layer : ℕ) where
    suspects_decides : (q p t : ℕ) → Decides (suspects layer trace q p t) (Suspects S trace layer q p t)
    suspects_decides q p t = (λ e. e, λ e. e)

    trusts_decides : (q p t : ℕ) → Decides (not (suspects layer trace q p t)) (Suspects S trace layer q p t → ⊥)
    trusts_decides q p t = not_decides (suspects layer trace q p t)

    pub verdicts_mean : AreVerdicts S trace layer (verdicts S trace layer)
    verdicts_mean = record {
      strong_completeness = least_tick _ _ S.horizon (λ t. from_decides _ _ t S.horizon (λ u.
          each_decides (is_correct S) (λ q. each S (is_crashed S) (λ p. suspects layer trace q p u)) _ _ correct_decides (λ q.
          each_decides (is_crashed S) (λ p. suspects layer trace q p u) _ _ crashed_decides (λ p. suspects_decides q p u))));
      weak_completeness = least_tick _ _ S.horizon (λ t.
          each_decides (is_crashed S) (λ p. some S (is_correct S) (λ q. all_from (suspects layer trace q p) t S.horizon)) _ _ crashed_decides (λ p.
          some_decides (is_correct S) (λ q. all_from (suspects layer trace q p) t S.horizon) _ _ correct_decides (λ q.
          from_decides (suspects layer trace q p) _ t S.horizon (λ u. suspects_decides q p u))));
      strong_accuracy = all_decides _ _ S.horizon (λ t.
          each_decides (λ q. is_up S q t) (λ q. each S (λ p. is_up S p t) (λ p. not (suspects layer trace q p t))) _ _ (up_decides t) (λ q.
          each_decides (λ p. is_up S p t) (λ p. not (suspects layer trace q p t)) _ _ (up_decides t) (λ p. trusts_decides q p t)));
      weak_accuracy =
          some_decides (is_correct S) (λ p. all_below (λ t. each S (λ q. is_up S q t) (λ q. not (suspects layer trace q p t))) S.horizon) _ _ correct_decides (λ p.
          all_decides _ _ S.horizon (λ t. each_decides (λ q. is_up S q t) (λ q. not (suspects layer trace q p t)) _ _ (up_decides t) (λ q. trusts_decides q p t)));
      eventual_strong_accuracy = least_tick _ _ S.horizon (λ t. from_decides _ _ t S.horizon (λ u.
          each_decides (is_correct S) (λ q. each S (is_correct S) (λ p. not (suspects layer trace q p u))) _ _ correct_decides (λ q.
          each_decides (is_correct S) (λ p. not (suspects layer trace q p u)) _ _ correct_decides (λ p. trusts_decides q p u))));
      eventual_weak_accuracy = least_tick _ _ S.horizon (λ t.
          some_decides (is_correct S) (λ p. all_from (λ u. each S (is_correct S) (λ q. not (suspects layer trace q p u))) t S.horizon) _ _ correct_decides (λ p.
          from_decides (λ u. each S (is_correct S) (λ q. not (suspects layer trace q p u))) _ t S.horizon (λ u.
          each_decides (is_correct S) (λ q. not (suspects layer trace q p u)) _ _ correct_decides (λ q. trusts_decides q p u))));
    }
