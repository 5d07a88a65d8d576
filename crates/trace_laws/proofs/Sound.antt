-- The setting of an accepted scenario is sound.
use Rattle.trace_laws.proofs.Words.{◌≡◌, ℕ, ◌≤◌, ◌+◌, ◌%◌, ◌-◌, ◌*◌, refl, ap, Bool, true, false, cond, not, arith, nat_lt, nat_le, nat_cmp, Option, Some, None, option_map, ForSome, eq-eqb, is_mind_at, stands_at, Place, same_place, and_true, Record, link, place_in, opening_mind, opening_algorithm, IsInRange, Link, Lost, Delay, fate_of, fate_by, is_cut, word, setting_of, IsSound, IsSlow}
use Rattle.std.specs.Prelude.{IsTrue}
use Rattle.std.specs.FinSet as set
use Rattle.process_api.specs.{Place.{most_ticks}, Reduction.{opening_reduction}}
use Rattle.process_api.proofs.{Allowed.{react_allowed}, DetectorLaws.{detector_opens}, Keeping.{react_keeps}}
use Rattle.scenario_record.specs.declared.algorithm.AlgorithmKind.TheVariants as kind
use Rattle.scenario_record.proofs.DetectorFacts.{opens_paced}

same_itself : (a : Place) → IsTrue (same_place a a)
same_itself a = and_true _ _ (eq-eqb a.own a.own refl) (and_true _ _ (eq-eqb a.processes a.processes refl) (eq-eqb a.horizon a.horizon refl))

at_least_one : (n : ℕ) → 1 ≤ n → nat_le 1 n ≡ true
at_least_one n h = grind arith

nobody_in : (q : ℕ) → not (set.contains (set.empty {R = nat_cmp}) q) ≡ true
nobody_in q = ap not (set.contains-empty nat_cmp q)

shares_paced : (o : Option ℕ) → ForSome o (λ period. (1 ≤ period) × (period ≤ most_ticks)) → (elim (option_map opening_reduction o) [ None ↦ true | Some reduction ↦ nat_le 1 reduction.period ]) ≡ true
shares_paced None h = refl
shares_paced (Some period) h = at_least_one period (h period refl).0

shares_trusting : (o : Option ℕ) (q : ℕ) → (elim (option_map opening_reduction o) [ None ↦ true | Some reduction ↦ not (set.contains reduction.output q) ]) ≡ true
shares_trusting None q = refl
shares_trusting (Some period) q = nobody_in q

module _ (s : Record) (is : IsInRange s) where
  algorithm_stands : (p : ℕ) → IsTrue (stands_at (place_in s p) (opening_algorithm s p))
  algorithm_stands p =
      elim s.algorithm as (λ k. IsTrue (stands_at (place_in s p) (opening_algorithm (record s { algorithm = k }) p))) [
        | kind.Idle ↦ refl
        | kind.Strong ↦ same_itself (place_in s p)
        | kind.EventuallyStrong ↦ same_itself (place_in s p)
      ]

  pub opens_with_mind : (p : ℕ) → IsTrue (is_mind_at (place_in s p) (opening_mind s p))
  opens_with_mind p =
      and_true _ _
      (and_true _ _ (same_itself (place_in s p))
      (and_true _ _ (opens_paced s.detector is.numbers) (shares_paced s.share is.share)))
      (and_true _ _ (and_true _ _ (ap not (detector_opens (place_in s p) s.detector p)) (shares_trusting s.share p)) (algorithm_stands p))

  by_words : (l : Link) (a b : ℕ) → s.lookahead ≤ l.min → IsSlow (setting_of s) (fate_by l a b)
  by_words l a b h = go (nat_lt (a % 1000) l.loss)
    where
      go : (lost : Bool) → IsSlow (setting_of s) (cond lost Lost (Delay (l.min + b % (l.max - l.min + 1))))
      go true = tt
      go false = omega arith

  fate_slow : (from to number sent_at : ℕ) → s.lookahead ≤ (link s from to).min → IsSlow (setting_of s) (fate_of s from to number sent_at)
  unfolding fate_of
  fate_slow from to number sent_at h =
      elim (is_cut s from to sent_at) as (λ cut. IsSlow (setting_of s) (cond cut Lost (fate_by (link s from to) (word s.seed from to (2 * (number - 1))) (word s.seed from to (2 * (number - 1) + 1)))))
      [ true ↦ tt | false ↦ by_words (link s from to) (word s.seed from to (2 * (number - 1))) (word s.seed from to (2 * (number - 1) + 1)) h ]

  pub setting_sound : IsSound (setting_of s)
  setting_sound = record {
    lasts = is.horizon_low;
    ahead = is.lookahead_low;
    opens = λ p own. opens_with_mind p;
    keeps = λ p mind now input own h. react_keeps (place_in s p) mind now input is.processes_low h;
    allowed = λ p mind now input own h. react_allowed (place_in s p) mind now input is.processes_low h;
    slow = λ from to number sent_at f t apart counted. fate_slow from to number sent_at (is.ahead from to f.0 f.1 t.0 t.1 apart);
  }
