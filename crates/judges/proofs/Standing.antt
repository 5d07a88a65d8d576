-- What is kept of a pair after its turns in a trace, as all ticks below the horizon are behind.
use Rattle.judges.proofs.Words.{◌≡◌, ℕ, ◌<◌, ◌≤◌, Bool, true, false, cond, inl, inr, refl, ap, ◌∙◌, subst, arith, List, [], ◌∷◌, beq, cases_lt, cond_both, le-leb, lt-leb, EntryRecord, Record, end_of, suspects, opened, turned, all_turned, kept_at, AreFrom, fed, Turn, turns}
use Rattle.judges.proofs.Turns.{stood, standing, AreWithin, suspects_is, turns_within}
use Rattle.judges.specs.declared.pair.Pair.{Pair}

pub same_from_beq : (x y : Bool) → beq x y ≡ true → x ≡ y
same_from_beq x y e = grind arith

-- ---- what is kept seen as something else that goes on alike

module _ {K J : Type 0} (seen : K → J) where
  abbrev pub shown : Pair K → Pair J
  shown p = record { end = p.end; current = p.current; kept = seen p.kept }

module _ {K J : Type 0} (passed : ℕ → Bool → ℕ → K → K) (gone : ℕ → Bool → ℕ → J → J) (seen : K → J)
    (sees : (until : ℕ) (now : Bool) (end : ℕ) (k : K) → seen (passed until now end k) ≡ gone until now end (seen k)) where
  shown_turned : (tick : ℕ) (suspected : Bool) (p : Pair K) → shown seen (turned passed tick suspected p) ≡ turned gone tick suspected (shown seen p)
  shown_turned tick suspected p = by (beq suspected p.current)
    where
      by : (b : Bool) → shown seen (cond b p (record p { current = suspected; kept = passed tick p.current p.end p.kept }))
          ≡ cond b (shown seen p) (record (shown seen p) { current = suspected; kept = gone tick p.current p.end (seen p.kept) })
      by true = refl
      by false = λ i. record { end = p.end; current = suspected; kept = sees tick p.current p.end p.kept i }

  pub shown_all : (ts : List Turn) (p : Pair K) → shown seen (all_turned passed p ts) ≡ all_turned gone (shown seen p) ts
  shown_all [] p = refl
  shown_all (t ∷ ts) p = shown_all ts (turned passed t.tick t.suspected p) ∙ ap (λ q. all_turned gone q ts) (shown_turned t.tick t.suspected p)

-- ---- what is known of it

-- what is kept goes on to a tick, and knows of a test of ticks what it is before that tick
pub record IsKeeping {K : Type 0} (passed : ℕ → Bool → ℕ → K → K) (tick : K → ℕ) (Knows : (ℕ → Bool) → ℕ → K → Type 0) : Type 0 where
  pub ticks : (k : K) (until : ℕ) (now : Bool) (end : ℕ) → tick k ≤ until → tick (passed until now end k) ≡ until
  pub knows : (f : ℕ → Bool) (end : ℕ) (k : K) (until : ℕ) (now : Bool) → Knows f end k → ((u : ℕ) → tick k ≤ u → u < until → f u ≡ now) → Knows f end (passed until now end k)

module _ {K : Type 0} (passed : ℕ → Bool → ℕ → K → K) (tick : K → ℕ) (Knows : (ℕ → Bool) → ℕ → K → Type 0) (keeping : IsKeeping passed tick Knows) where
  -- a pair whose suspicion is given tick by tick, and which has not gone beyond the last tick
  record IsStanding (g : ℕ → Bool) (last end : ℕ) (p : Pair K) : Type 0 where
    same_end : p.end ≡ end
    reached : tick p.kept ≤ last
    -- from its tick on, the pair is as it is now
    later : (u : ℕ) → tick p.kept ≤ u → g u ≡ p.current
    -- it knows every test that is like this one before its tick
    known : (f : ℕ → Bool) → ((u : ℕ) → u < tick p.kept → f u ≡ g u) → Knows f p.end p.kept

  module _ (g : ℕ → Bool) (last end : ℕ) (p : Pair K) (h : IsStanding g last end p) (t : Turn) (l : last ≤ t.tick) where
    early : (u : ℕ) → u < t.tick → stood g t u ≡ g u
    early u x = ap (λ b. cond b t.suspected (g u)) (lt-leb t.tick u x)

    late : (u : ℕ) → t.tick ≤ u → stood g t u ≡ t.suspected
    late u x = ap (λ b. cond b t.suspected (g u)) (le-leb t.tick u x)

    kept : t.suspected ≡ p.current → IsStanding (stood g t) t.tick end p
    kept e = record {
      same_end = h.same_end;
      reached = omega (arith, h.reached);
      later = λ u x. elim (cases_lt u t.tick) [ inl y ↦ early u y ∙ h.later u x | inr y ↦ late u y ∙ e ];
      known = λ f s. h.known f (λ u x. s u x ∙ early u (omega (arith, h.reached)));
    }

    changed : IsStanding (stood g t) t.tick end (record p { current = t.suspected; kept = passed t.tick p.current p.end p.kept })
    changed =
        let at : tick (passed t.tick p.current p.end p.kept) ≡ t.tick = keeping.ticks p.kept t.tick p.current p.end (omega (arith, h.reached)) in
        record {
          same_end = h.same_end;
          reached = omega (arith, at);
          later = λ u x. late u (omega (arith, at));
          known = λ f s.
              let like : (u : ℕ) → u < t.tick → f u ≡ g u = λ u x. s u (omega (arith, at)) ∙ early u x in
              keeping.knows f p.end p.kept t.tick p.current (h.known f (λ u x. like u (omega (arith, h.reached)))) (λ u x y. like u y ∙ h.later u x);
        }

    one_turned : IsStanding (stood g t) t.tick end (turned passed t.tick t.suspected p)
    one_turned =
        cond_both (beq t.suspected p.current) p (record p { current = t.suspected; kept = passed t.tick p.current p.end p.kept }) (IsStanding (stood g t) t.tick end)
        (λ e. kept (same_from_beq t.suspected p.current e)) (λ e. changed)

  all_standing : (horizon : ℕ) (ts : List Turn) (g : ℕ → Bool) (last end : ℕ) (p : Pair K) → IsStanding g last end p → AreWithin last horizon ts → IsStanding (standing g ts) horizon end (all_turned passed p ts)
  all_standing horizon [] g last end p h l = record { same_end = h.same_end; reached = omega (arith, h.reached, l); later = h.later; known = h.known }
  all_standing horizon (t ∷ ts) g last end p h l = all_standing horizon ts (stood g t) t.tick end (turned passed t.tick t.suspected p) (one_turned g last end p h t l.0) l.1

  -- what is known of a pair at the horizon
  pub record IsKnown (f : ℕ → Bool) (horizon end : ℕ) (p : Pair K) : Type 0 where
    pub same_end : p.end ≡ end
    pub behind : tick (kept_at passed horizon p) ≡ horizon
    pub knows : Knows f end (kept_at passed horizon p)

  -- of a pair that was fed with a trace
  pub fed_known : (S : Record) (layer q p : ℕ) (k : K) (trace : List EntryRecord) → tick k ≡ 0 → ((f : ℕ → Bool) (end : ℕ) → Knows f end k) → AreFrom 0 trace
      → IsKnown (suspects layer trace q p) S.horizon (end_of S q p) (fed passed S layer q p k trace)
  fed_known S layer q p k trace zero none order =
      let first : IsStanding (λ _. false) 0 (end_of S q p) (opened (end_of S q p) k)
      = record { same_end = refl; reached = omega (arith, zero); later = λ u x. refl; known = λ f s. none f (end_of S q p) } in
      let ts = turns layer q p S.horizon trace in
      let after = all_turned passed (opened (end_of S q p) k) ts in
      let h = all_standing S.horizon ts (λ _. false) 0 (end_of S q p) (opened (end_of S q p) k) first (turns_within layer q p S.horizon trace 0 0 order (omega arith) (omega arith)) in
      record {
        same_end = h.same_end;
        behind = keeping.ticks after.kept S.horizon after.current after.end h.reached;
        knows = subst (λ e. Knows (suspects layer trace q p) e (kept_at passed S.horizon after)) h.same_end
            (keeping.knows (suspects layer trace q p) after.end after.kept S.horizon after.current
            (h.known (suspects layer trace q p) (λ u x. suspects_is layer q p S.horizon u (omega (arith, h.reached)) trace))
            (λ u x y. suspects_is layer q p S.horizon u y trace ∙ h.later u x));
      }
