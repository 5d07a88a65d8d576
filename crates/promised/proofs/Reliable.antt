-- A link counts as reliable exactly where the bounds call it so.
use Rattle.promised.proofs.Words.{◌≡◌, ◌∙◌, sym, ap, refl, ℕ, ◌≤◌, ◌==◌, Bool, true, false, not, ◌||◌, true≢false, List, [], ◌∷◌, length, arith, le-leb, eq-eqb, both_true, and_true, DetectorNumbers, Timeout, Freshness, Record, link, outages_on, Link, IsTimely, IsReliable, watched_link, loses, needed, patience, is_timely, is_reliable}
use Rattle.std.specs.Prelude.{◌↔◌}
use Rattle.{std.proofs.lemmas.Bool.{leb-true, eqb-true}, scenario_record.specs.declared.outage.Outage.{Outage}}

neither : (a b : Bool) → not (not a || not b) ≡ true → (a ≡ true) × (b ≡ true)
neither true true h = (refl, refl)
neither true false h = absurd (true≢false (sym h))
neither false b h = absurd (true≢false (sym h))

no_longer : (xs : List Outage) → (length xs == 0) ≡ true → xs ≡ []
no_longer [] h = refl
no_longer (x ∷ xs) h = absurd (omega (arith, eqb-true (length (x ∷ xs)) 0 h))

-- the least that a link needs is what makes it timely
pub timely_from : (d : DetectorNumbers) (l : Link) → needed d l ≤ patience d → IsTimely d l
timely_from (Timeout its) l h = (omega (arith, h), omega (arith, h))
timely_from (Freshness its) l h = h

pub needed_below : (d : DetectorNumbers) (l : Link) → IsTimely d l → needed d l ≤ patience d
needed_below (Timeout its) l h = omega (arith, h.0, h.1)
needed_below (Freshness its) l h = h

module _ (s : Record) (q p : ℕ) where
  pub lossless_keeps : not (loses (watched_link s q p)) ≡ true → ((link s p q).loss ≡ 0) × (outages_on s p q ≡ [])
  lossless_keeps h =
      let both = neither ((link s p q).loss == 0) (length (outages_on s p q) == 0) h in
      (eqb-true (link s p q).loss 0 both.0, no_longer (outages_on s p q) both.1)

  pub is_lossless : (link s p q).loss ≡ 0 → outages_on s p q ≡ [] → not (loses (watched_link s q p)) ≡ true
  is_lossless loss outages =
      ap (λ b. not (not b || not (length (outages_on s p q) == 0))) (eq-eqb (link s p q).loss 0 loss)
      ∙ ap (λ b. not (not true || not b)) (eq-eqb (length (outages_on s p q)) 0 (ap length outages))

  pub reliable_is : (is_reliable s.detector (watched_link s q p) ≡ true) ↔ IsReliable s p q
  reliable_is = (to, from)
    where
      to : is_reliable s.detector (watched_link s q p) ≡ true → IsReliable s p q
      to h =
          let both = both_true (not (loses (watched_link s q p))) (is_timely s.detector (link s p q)) h in
          let kept = lossless_keeps both.0 in
          record {
            no_loss = kept.0;
            no_outage = kept.1;
            timely = timely_from s.detector (link s p q) (leb-true (needed s.detector (link s p q)) (patience s.detector) both.1);
          }

      from : IsReliable s p q → is_reliable s.detector (watched_link s q p) ≡ true
      from is = and_true (not (loses (watched_link s q p))) (is_timely s.detector (link s p q))
          (is_lossless is.no_loss is.no_outage)
          (le-leb (needed s.detector (link s p q)) (patience s.detector) (needed_below s.detector (link s p q) is.timely))
