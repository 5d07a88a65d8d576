-- The rows of a process, one after the other.
use Rattle.drawing.proofs.Words.{◌≡◌, ◌≢◌, ◌∙◌, ℕ, ◌+◌, ◌-◌, Bool, true, false, ◌||◌, cond, not, ap, sym, subst, arith, List, [], ◌∷◌, ◌++◌, filter, length, length-append, append-nil, append_assoc, flat_map-append, filter-append, others, placeless, AreRowsOf, pair_in, bands_in, row_at, bars_in, has_row_in, row_top, subjects, bands, pair_at, has_bar, has_row, upper_bars, Bar}
use Rattle.{drawing.proofs.Counting.{others_itself, others_other}, scenario_record.specs.Record.{outages_on}}
use Rattle.drawing.specs.declared.groups.{Rows.{Rows}, Run.{Run}}

-- where a pair has a bar
pub shown_same : (run : Run) (q p : ℕ) (first second : List Bar) → first ≡ bars_in run 1 q p → second ≡ upper_bars run.scenario.now.share (bars_in run 2 q p)
    → (has_bar first || has_bar second) ≡ has_row_in run q p
unfolding has_row_in has_row
shown_same run q p first second e f = rw (e, f)

module _ (test : ℕ → Bool) (ps : List ℕ) (p : ℕ) where
  kept : (b : Bool) → test p ≡ b → filter test (ps ++ p ∷ []) ≡ filter test ps ++ cond b (p ∷ []) []
  kept b e = filter-append test ps (p ∷ []) ∙ ap (λ b. filter test ps ++ cond b (p ∷ []) []) e

  dropped : test p ≡ false → filter test (ps ++ p ∷ []) ≡ filter test ps
  dropped e = kept false e ∙ append-nil (filter test ps)

  counted : test p ≡ true → length (filter test (ps ++ p ∷ [])) ≡ length (filter test ps) + 1
  counted e = ap length (kept true e) ∙ length-append (filter test ps) (p ∷ [])

module _ (run : Run) (q n p : ℕ) (next : p ≡ n + 1) (old : Rows) (sofar : AreRowsOf run q (others n q) old) where
  -- the process itself has no row more
  pub itself_more : p ≡ q → AreRowsOf run q (others (n + 1) q) old
  itself_more e = subst (λ ps. AreRowsOf run q ps old) (sym (others_itself n q (omega arith))) sofar

  module _ (other : p ≢ q) where
    abbrev has : ℕ → Bool
    has = has_row_in run q

    abbrev lacks : ℕ → Bool
    lacks p = not (has_row_in run q p)

    with_other : {new : Rows} → AreRowsOf run q (others n q ++ p ∷ []) new → AreRowsOf run q (others (n + 1) q) new
    with_other {new} rows =
        subst (λ ps. AreRowsOf run q ps new) (sym (others_other n q (λ e. other (next ∙ e)) ∙ ap (λ s. others n q ++ s ∷ []) (sym next))) rows

    -- a pair without a bar
    pub without_row : has p ≡ false → AreRowsOf run q (others (n + 1) q) (record old { left_out = old.left_out + 1 })
    without_row e = with_other (record {
      shapes = rw (dropped has (others n q) p e) sofar.shapes;
      bands = rw (dropped has (others n q) p e) sofar.bands;
      top = rw (dropped has (others n q) p e) sofar.top;
      left_out = omega (arith, sofar.left_out, counted lacks (others n q) p (ap not e));
    })

    -- a pair with one
    pub with_row : has p ≡ true → (new : Rows) → placeless new.shapes.items ≡ placeless old.shapes.items ++ pair_at run.scenario.now run.ticks.from run.ticks.until (bars_in run) old.top q p
        → new.bands.items ≡ old.bands.items ++ bands run.ticks.from run.ticks.until old.top (outages_on run.scenario.now p q)
        → new.top ≡ old.top + 16 → new.left_out ≡ old.left_out → AreRowsOf run q (others (n + 1) q) new
    unfolding pair_in bands_in row_top has_row_in
    with_row e new shapes below top left_out =
        let before : n ≡ p - 1 = omega arith in
        let here : old.top ≡ row_at run q p = omega (arith, sofar.top, ap (λ k. length (subjects (has_row_in run) k q)) before) in
        let more = kept has (others n q) p true e in
        with_other (record {
          shapes = rw (shapes, here, sofar.shapes) (simp (more, flat_map-append, append_assoc, append-nil));
          bands = rw (below, here, sofar.bands) (simp (more, flat_map-append, append_assoc, append-nil));
          top = omega (arith, sofar.top, top, counted has (others n q) p e);
          left_out = rw (dropped lacks (others n q) p (ap not e)) (left_out ∙ sofar.left_out);
        })
