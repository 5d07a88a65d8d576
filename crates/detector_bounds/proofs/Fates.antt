-- How long a letter takes on a link, and that a link without loss and outage delivers each.
use Rattle.detector_bounds.proofs.Words.{◌≡◌, ℕ, ◌+◌, ◌-◌, ◌*◌, ◌%◌, ◌≤◌, ap, ◌∙◌, subst, Bool, true, false, cond, [], nat_lt, arith, list_any, le-ltb, mod_below, Record, link, outages_on, Link, fate_of, fate_by, is_cut, word, Fate, Lost, Delay, setting_of}
use Rattle.{detector_bounds.proofs.Added.{Delivers}, scenario_record.specs.Record.{covers}}

-- a delay of the link
abbrev pub IsDelay : Link → ℕ → Type 0
IsDelay l d = (l.min ≤ d) × (d ≤ l.max)

abbrev delay_of : Fate → ℕ
delay_of Lost = 0
delay_of (Delay d) = d

within : (l : Link) → l.min ≤ l.max → (b : ℕ) → IsDelay l (l.min + b % (l.max - l.min + 1))
within l is b = let below = mod_below b (l.max - l.min + 1) (omega arith) in (omega arith, omega (arith, is, below))

by_words : (l : Link) → l.min ≤ l.max → (a b d : ℕ) → fate_by l a b ≡ Delay d → IsDelay l d
by_words l is a b d = go (nat_lt (a % 1000) l.loss)
  where
    go : (lost : Bool) → cond lost Lost (Delay (l.min + b % (l.max - l.min + 1))) ≡ Delay d → IsDelay l d
    go true e = absurd (cc)
    go false e = subst (IsDelay l) (ap delay_of e) (within l is b)

module _ (s : Record) (from to : ℕ) (is : (link s from to).min ≤ (link s from to).max) where
  pub fate_within : (number now d : ℕ) → fate_of s from to number now ≡ Delay d → IsDelay (link s from to) d
  unfolding fate_of
  fate_within number now d = go (is_cut s from to now)
    where
      go : (cut : Bool) → cond cut Lost (fate_by (link s from to) (word s.seed from to (2 * (number - 1))) (word s.seed from to (2 * (number - 1) + 1))) ≡ Delay d → IsDelay (link s from to) d
      go true e = absurd (cc)
      go false e = by_words (link s from to) is _ _ d e

  pub delivers : (link s from to).loss ≡ 0 → outages_on s from to ≡ [] → (now : ℕ) → Delivers (setting_of s) from now to (link s from to).max
  unfolding fate_of
  delivers no_loss no_outage now number =
      let a = word s.seed from to (2 * (number - 1)) in
      let b = word s.seed from to (2 * (number - 1) + 1) in
      let not_cut : is_cut s from to now ≡ false = ap (list_any (covers now)) no_outage in
      let not_lost : nat_lt (a % 1000) (link s from to).loss ≡ false = ap (nat_lt (a % 1000)) no_loss ∙ le-ltb (a % 1000) 0 (omega arith) in (
        (link s from to).min + b % ((link s from to).max - (link s from to).min + 1),
        ap (λ cut. cond cut Lost (fate_by (link s from to) a b)) not_cut ∙ ap (λ lost. cond lost Lost (Delay ((link s from to).min + b % ((link s from to).max - (link s from to).min + 1)))) not_lost,
        (within (link s from to) is b).1,
      )
