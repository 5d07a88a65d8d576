-- The least tick that passes a test.
use Rattle.runs.proofs.Words.{◌≡◌, ◌⊎◌, inl, inr, ℕ, zero, suc, ◌<◌, ◌≤◌, refl, sym, ap, ◌∙◌, Bool, true, cond, arith, None, Some, cond-true, first_of, least_below}
use Rattle.std.proofs.lemmas.Option.{cond_some}

pub least_passes : (test : ℕ → Bool) (end t : ℕ) → least_below test end ≡ Some t → (t < end) × (test t ≡ true)
least_passes test zero t e = absurd (cc)
least_passes test (suc u) t e =
    elim (least_below test u) as (λ o. least_below test u ≡ o → first_of o (cond (test u) (Some u) None) ≡ Some t → (t < suc u) × (test t ≡ true)) [
      | None ↦ λ _ same. let r = cond_some (test u) u t same in (omega (arith, r.1), ap test (sym r.1) ∙ r.0)
      | Some v ↦ λ is same. let r = least_passes test u t (is ∙ same) in (omega (arith, r.0), r.1)
    ] refl e

last_or_earlier : (t v : ℕ) → t < suc v → (t ≡ v) ⊎ (t < v)
last_or_earlier t v h = grind arith

-- the least that passes is no later than one that does
pub least_by : (test : ℕ → Bool) (end t : ℕ) → t < end → test t ≡ true → (u : ℕ) × (least_below test end ≡ Some u) × (u ≤ t)
least_by test zero t below is = absurd (omega (arith, below))
least_by test (suc v) t below is =
    elim (last_or_earlier t v below) [
      | inr early ↦ let r = least_by test v t early is in (r.0, ap (λ o. first_of o (cond (test v) (Some v) None)) r.1, r.2)
      | inl last ↦
          elim (least_below test v) as (λ o. least_below test v ≡ o → (u : ℕ) × (first_of o (cond (test v) (Some v) None) ≡ Some u) × (u ≤ t)) [
            | None ↦ λ _. (v, cond-true (test v) (Some v) None (ap test (sym last) ∙ is), omega (arith, last))
            | Some u ↦ λ same. (u, refl, omega (arith, last, (least_passes test v u same).0))
          ] refl
    ]
