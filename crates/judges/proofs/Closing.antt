-- The verdicts at the close.
use Rattle.judges.proofs.Words.{◌≡◌, ℕ, zero, suc, ◌+◌, ◌*◌, ◌<◌, Bool, cond, not, ◌&&◌, inl, inr, refl, sym, ap, ◌∙◌, subst, arith, Option, None, Some, List, get_or, cases_lt, lt-ltb, le-ltb, eq-eqb, ne_eqb, not-not, EntryRecord, Record, crash_tick, is_crashed, is_correct, end_of, all_below, any_below, suspects, verdicts, opened, ArePairs, fed, turns, Knows, new_track, passed, suspected_from, trusted_from, latest, earliest, latest_below, earliest_below, pair, place, counts_as_correct, row_suspected, column_suspected, row_trusted, column_trusted, column_right, grid_verdicts, Pairs, Track}
use Rattle.judges.proofs.{Judging.{AreTracks, judged, verdicts_are}, Tracks.{tracks_keep, none_known}, Standing.{IsKnown, fed_known, shown, shown_all}, Below.{any_below-same}}

latest-same : (o r : ℕ → Option ℕ) (n : ℕ) → ((i : ℕ) → i < n → o i ≡ r i) → latest_below o n ≡ latest_below r n
latest-same o r zero h = refl
latest-same o r (suc n) h = ap (λ x. latest x (o n)) (latest-same o r n (λ i l. h i (omega arith))) ∙ ap (latest (latest_below r n)) (h n (omega arith))

earliest-same : (o r : ℕ → Option ℕ) (n : ℕ) → ((i : ℕ) → i < n → o i ≡ r i) → earliest_below o n ≡ earliest_below r n
earliest-same o r zero h = refl
earliest-same o r (suc n) h = ap (λ x. earliest x (o n)) (earliest-same o r n (λ i l. h i (omega arith))) ∙ ap (earliest (earliest_below r n)) (h n (omega arith))

module _ {K : Type 0} (keeps : ℕ → Bool → ℕ → K → K) (seen : K → Track) (fresh : K) (begins : seen fresh ≡ new_track)
    (sees : (until : ℕ) (now : Bool) (end : ℕ) (k : K) → seen (keeps until now end k) ≡ passed until now end (seen k))
    (S : Record) (layer : ℕ) (trace : List EntryRecord) (m : Pairs K) (h : ArePairs keeps S layer fresh trace m) where
  module _ (i j : ℕ) (l : i < S.processes) (r : j < S.processes) where
    -- a pair is as tracks see it that were fed with the trace
    shown_is : shown seen (pair keeps seen fresh m i j) ≡ fed passed S layer (suc i) (suc j) new_track trace
    shown_is =
        ap (shown seen) (ap (λ n. get_or m.pairs.items (i * n + j) (opened 0 fresh)) h.processes ∙ h.each i j (opened 0 fresh) l r)
        ∙ shown_all keeps passed seen sees (turns layer (suc i) (suc j) S.horizon trace) (opened (end_of S (suc i) (suc j)) fresh)
        ∙ ap (λ k. fed passed S layer (suc i) (suc j) k trace) begins

    known : IsKnown passed (λ (t : Track). t.tick) Knows tracks_keep (suspects layer trace (suc i) (suc j)) m.horizon (end_of S (suc i) (suc j)) (shown seen (pair keeps seen fresh m i j))
    known =
        subst (λ n. IsKnown passed (λ (t : Track). t.tick) Knows tracks_keep (suspects layer trace (suc i) (suc j)) n (end_of S (suc i) (suc j)) (shown seen (pair keeps seen fresh m i j))) (sym h.horizon)
        (subst (IsKnown passed (λ (t : Track). t.tick) Knows tracks_keep (suspects layer trace (suc i) (suc j)) S.horizon (end_of S (suc i) (suc j))) (sym shown_is)
        (fed_known passed (λ (t : Track). t.tick) Knows tracks_keep S layer (suc i) (suc j) new_track trace refl none_known h.in_order))

  latest_with : (o r : ℕ → Option ℕ) → ((i : ℕ) → i < S.processes → o i ≡ r i) → latest_below o m.processes ≡ latest_below r S.processes
  latest_with o r same = ap (latest_below o) h.processes ∙ latest-same o r S.processes same

  earliest_with : (o r : ℕ → Option ℕ) → ((i : ℕ) → i < S.processes → o i ≡ r i) → earliest_below o m.processes ≡ earliest_below r S.processes
  earliest_with o r same = ap (earliest_below o) h.processes ∙ earliest-same o r S.processes same

  are_tracks : AreTracks S trace layer (place keeps seen fresh m)
  are_tracks = λ i j l r.
      let k = known i j l r in
      let p = pair keeps seen fresh m i j in
      let is = sees m.horizon p.current p.end p.kept in
      (subst (Knows (suspects layer trace (suc i) (suc j)) (end_of S (suc i) (suc j))) (sym is) k.knows, ap (λ (t : Track). t.tick) is ∙ k.behind ∙ h.horizon)

  -- a process counts_as_correct just where its end is the horizon
  stays_is : (i : ℕ) → i < S.processes → counts_as_correct keeps seen fresh m i ≡ is_correct S (suc i)
  stays_is i l =
      let k = known i i l l in
      elim (cases_lt (crash_tick S (suc i)) S.horizon) [
        | inl p ↦ ne_eqb _ _ (λ e. let x : m.horizon ≡ end_of S (suc i) (suc i) = sym e ∙ k.same_end in omega (arith, x, h.horizon)) ∙ sym (ap not (lt-ltb _ _ p))
        | inr p ↦ eq-eqb _ _ (let x : (pair keeps seen fresh m i i).end ≡ m.horizon = omega (arith, k.same_end, h.horizon) in x) ∙ sym (ap not (le-ltb _ _ p))
      ]

  crashes_is : (i : ℕ) → i < S.processes → not (counts_as_correct keeps seen fresh m i) ≡ is_crashed S (suc i)
  crashes_is i l = ap not (stays_is i l) ∙ not-not (is_crashed S (suc i))

  row_suspected_is : (i : ℕ) → row_suspected keeps seen fresh m i ≡ latest_below (λ j. cond (is_crashed S (suc j)) (suspected_from (place keeps seen fresh m i j)) (Some 0)) S.processes
  row_suspected_is i = latest_with _ _ (λ j x. ap (λ b. cond b (suspected_from (place keeps seen fresh m i j)) (Some 0)) (crashes_is j x))

  column_suspected_is : (j : ℕ) → column_suspected keeps seen fresh m j ≡ earliest_below (λ i. cond (is_correct S (suc i)) (suspected_from (place keeps seen fresh m i j)) None) S.processes
  column_suspected_is j = earliest_with _ _ (λ i x. ap (λ b. cond b (suspected_from (place keeps seen fresh m i j)) None) (stays_is i x))

  row_trusted_is : (i : ℕ) → row_trusted keeps seen fresh m i ≡ latest_below (λ j. cond (is_correct S (suc j)) (trusted_from (place keeps seen fresh m i j)) (Some 0)) S.processes
  row_trusted_is i = latest_with _ _ (λ j x. ap (λ b. cond b (trusted_from (place keeps seen fresh m i j)) (Some 0)) (stays_is j x))

  column_trusted_is : (j : ℕ) → column_trusted keeps seen fresh m j ≡ latest_below (λ i. cond (is_correct S (suc i)) (trusted_from (place keeps seen fresh m i j)) (Some 0)) S.processes
  column_trusted_is j = latest_with _ _ (λ i x. ap (λ b. cond b (trusted_from (place keeps seen fresh m i j)) (Some 0)) (stays_is i x))

  told : grid_verdicts keeps seen fresh m ≡ judged S (place keeps seen fresh m)
  told =
      let right : ℕ → ℕ → Bool = λ i j. not (place keeps seen fresh m i j).mistaken in
      let sc = latest_with (λ i. cond (counts_as_correct keeps seen fresh m i) (row_suspected keeps seen fresh m i) (Some 0)) (λ i. cond (is_correct S (suc i)) (latest_below (λ j. cond (is_crashed S (suc j)) (suspected_from (place keeps seen fresh m i j)) (Some 0)) S.processes) (Some 0))
      (λ i x. ap (λ b. cond b (row_suspected keeps seen fresh m i) (Some 0)) (stays_is i x) ∙ ap (λ o. cond (is_correct S (suc i)) o (Some 0)) (row_suspected_is i)) in
      let wc = latest_with (λ j. cond (not (counts_as_correct keeps seen fresh m j)) (column_suspected keeps seen fresh m j) (Some 0)) (λ j. cond (is_crashed S (suc j)) (earliest_below (λ i. cond (is_correct S (suc i)) (suspected_from (place keeps seen fresh m i j)) None) S.processes) (Some 0))
      (λ j x. ap (λ b. cond b (column_suspected keeps seen fresh m j) (Some 0)) (crashes_is j x) ∙ ap (λ o. cond (is_crashed S (suc j)) o (Some 0)) (column_suspected_is j)) in
      let sa = ap (λ n. all_below (λ i. all_below (right i) n) n) h.processes in
      let wa = ap (any_below (λ j. counts_as_correct keeps seen fresh m j && column_right keeps seen fresh m j)) h.processes
      ∙ any_below-same (λ j. counts_as_correct keeps seen fresh m j && column_right keeps seen fresh m j) (λ j. is_correct S (suc j) && all_below (λ i. right i j) S.processes) S.processes
      (λ j x. ap (λ b. b && column_right keeps seen fresh m j) (stays_is j x) ∙ ap (λ n. is_correct S (suc j) && all_below (λ i. right i j) n) h.processes) in
      let es = latest_with (λ i. cond (counts_as_correct keeps seen fresh m i) (row_trusted keeps seen fresh m i) (Some 0)) (λ i. cond (is_correct S (suc i)) (latest_below (λ j. cond (is_correct S (suc j)) (trusted_from (place keeps seen fresh m i j)) (Some 0)) S.processes) (Some 0))
      (λ i x. ap (λ b. cond b (row_trusted keeps seen fresh m i) (Some 0)) (stays_is i x) ∙ ap (λ o. cond (is_correct S (suc i)) o (Some 0)) (row_trusted_is i)) in
      let ew = earliest_with (λ j. cond (counts_as_correct keeps seen fresh m j) (column_trusted keeps seen fresh m j) None) (λ j. cond (is_correct S (suc j)) (latest_below (λ i. cond (is_correct S (suc i)) (trusted_from (place keeps seen fresh m i j)) (Some 0)) S.processes) None)
      (λ j x. ap (λ b. cond b (column_trusted keeps seen fresh m j) None) (stays_is j x) ∙ ap (λ o. cond (is_correct S (suc j)) o None) (column_trusted_is j)) in
      λ x. record {
        strong_completeness = sc x;
        weak_completeness = wc x;
        strong_accuracy = sa x;
        weak_accuracy = wa x;
        eventual_strong_accuracy = es x;
        eventual_weak_accuracy = ew x;
      }

  pub judging_closed : grid_verdicts keeps seen fresh m ≡ verdicts S trace layer
  judging_closed = told ∙ sym (verdicts_are S trace layer (place keeps seen fresh m) are_tracks h.lasts)
