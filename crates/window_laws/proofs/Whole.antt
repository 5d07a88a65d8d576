-- Windows one after the other make the trace.
use Rattle.window_laws.proofs.Words.{◌≡◌, ℕ, ◌≤◌, inl, inr, refl, sym, ◌∙◌, subst, List, [], ◌∷◌, ◌++◌, append_assoc, arith, true, true≢false, Ordering, Less, Equal, Greater, map-append, list_all, key_cmp, is_less, is_before, is_rising, Key, EntryRecord, not_before_itself, not_both, Setting, IsSound, World, IsWorld, Run, entries, opening, IsTrace, taken, opening_world, RunSoFar, so_far_then, run_exists, IsMerge, Windows, end_to_end, StageRecord, StandsFor, end_of}
use Rattle.{window_laws.proofs.Order.{any_order}, std.specs.Prelude.{IsTrue}, process_api.proofs.Minds.{both_true}}
use Rattle.trace_laws.specs.History.{IsIn, Pair}

-- ---- two rising lists with the same entries are one

-- each is before all that follow
abbrev pub AreRising : List EntryRecord → Type 0
AreRising [] = Unit {0}
AreRising (e ∷ es) = ((f : EntryRecord) → IsIn f es → key_cmp e.key f.key ≡ Less) × AreRising es

less_is : (r : Ordering) → is_less r ≡ true → r ≡ Less
less_is Less h = refl
less_is Equal h = absurd (true≢false (sym h))
less_is Greater h = absurd (true≢false (sym h))

front_is : (k : Key) (es : List EntryRecord) → list_all (λ f. is_before k f.key) es ≡ true → (f : EntryRecord) → IsIn f es → key_cmp k f.key ≡ Less
front_is k [] all f i = absurd i
front_is k (e ∷ es) all f (inl is) = subst (λ (z : EntryRecord). key_cmp k z.key ≡ Less) (sym is) (less_is _ (both_true _ _ all).0)
front_is k (e ∷ es) all f (inr i) = front_is k es (both_true _ _ all).1 f i

are_rising : (es : List EntryRecord) → IsTrue (is_rising es) → AreRising es
are_rising [] r = tt
are_rising (e ∷ es) r = (front_is e.key es (both_true _ _ r).0, are_rising es (both_true _ _ r).1)

drop_front : (x : EntryRecord) (xs ys : List EntryRecord) → AreRising (x ∷ xs) → ((e : EntryRecord) → IsIn e (x ∷ xs) → IsIn e (x ∷ ys)) → (e : EntryRecord) → IsIn e xs → IsIn e ys
drop_front x xs ys rising same e i = go (same e (inr i))
  where
    go : IsIn e (x ∷ ys) → IsIn e ys
    go (inl is) = absurd (not_before_itself x.key (subst (λ (z : EntryRecord). key_cmp x.key z.key ≡ Less) is (rising.0 e i)))
    go (inr j) = j

same_front : (x y : EntryRecord) (xs ys : List EntryRecord) → AreRising (x ∷ xs) → AreRising (y ∷ ys) → IsIn x (y ∷ ys) → IsIn y (x ∷ xs) → x ≡ y
same_front x y xs ys a b (inl e) j = e
same_front x y xs ys a b (inr i) (inl e) = sym e
same_front x y xs ys a b (inr i) (inr j) = absurd (not_both x.key y.key (a.0 y j) (b.0 x i))

pub one_rising : (xs ys : List EntryRecord) → AreRising xs → AreRising ys → ((e : EntryRecord) → IsIn e xs → IsIn e ys) → ((e : EntryRecord) → IsIn e ys → IsIn e xs) → xs ≡ ys
one_rising [] [] a b there back = refl
one_rising [] (y ∷ ys) a b there back = absurd (back y (inl refl))
one_rising (x ∷ xs) [] a b there back = absurd (there x (inl refl))
one_rising (x ∷ xs) (y ∷ ys) a b there back =
    let e : x ≡ y = same_front x y xs ys a b (there x (inl refl)) (back y (inl refl)) in
    let rest : xs ≡ ys = one_rising xs ys a.1 b.1
    (drop_front x xs ys a (λ z i. subst (λ f. IsIn z (f ∷ ys)) (sym e) (there z i)))
    (drop_front y ys xs b (λ z i. subst (λ f. IsIn z (f ∷ xs)) e (back z i))) in
    λ i. e i ∷ rest i

pub one_merge : (n : ℕ) (part : ℕ → List EntryRecord) (xs ys : List EntryRecord) → IsMerge n part xs → IsMerge n part ys → xs ≡ ys
one_merge n part xs ys a b = one_rising xs ys (are_rising xs a.rising) (are_rising ys b.rising) (λ e i. (b.same e).1 ((a.same e).0 i)) (λ e i. (a.same e).1 ((b.same e).0 i))

module _ {Mind : Type 0} (S : Setting Mind) where
  -- the steps up to a tick are steps up to a later one
  steps_of : (end far : ℕ) → end ≤ far → (h : List Pair) (w u : World Mind) → Run S end w h u → RunSoFar S far w h u
  steps_of end far le [] w u run = run.1
  steps_of end far le (s ∷ h) w u run = (run.0, omega (arith, run.1), run.2, steps_of end far le h (taken S w s.0.key s.1) u run.3)

  -- a run up to a tick, and one from there on
  pub run_on : (end far : ℕ) → end ≤ far → (h g : List Pair) (w u v : World Mind) → Run S end w h u → Run S far u g v → Run S far w (h ++ g) v
  run_on end far le h g w u v a b = so_far_then S far h g w u v (steps_of end far le h w u a) b

  module _ (sound : IsSound S) (window : ℕ) (short : window ≤ S.lookahead) where
    -- whatever run goes on from the last world
    abbrev GoesOn : World Mind → List Pair → World Mind → Type 0
    GoesOn w history last = (rest : List Pair) (v : World Mind) → Run S S.horizon last rest v → Run S S.horizon w (history ++ rest) v

    windows_run : (parts : List (List EntryRecord)) (w : World Mind) → IsWorld S w → (g h : StageRecord Mind) → StandsFor S window g w → Windows S window g parts h
        → (history : List Pair) × (last : World Mind) × GoesOn w history last × (end_to_end parts ≡ entries history) × IsWorld S last × StandsFor S window h last
    windows_run [] w is_world g h stands run = ([], w, (λ rest v r. r), refl, is_world, subst (λ z. StandsFor S window z w) (sym run) stands)
    windows_run (merged ∷ more) w is_world g h stands (acts, found, left, run, is_merge, rest) =
        let r = any_order S sound window short w is_world g stands acts found left run in
        let t = windows_run more r.1 r.2.world left h r.2.stands rest in (
          r.0 ++ t.0,
          t.1,
          (λ l v next. subst (λ z. Run S S.horizon w z v) (sym (append_assoc r.0 t.0 l)) (run_on (end_of S window g.start) S.horizon (omega arith) r.0 (t.0 ++ l) w r.1 v r.2.run (t.2 l v next))),
          (λ i. one_merge S.processes found.part merged (entries r.0) is_merge r.2.merged i ++ t.3 i) ∙ sym (map-append (λ (s : Pair). s.0) r.0 t.0),
          t.4,
          t.5,
        )

    pub windows_trace : (g : StageRecord Mind) → StandsFor S window g (opening S) → (parts : List (List EntryRecord)) (h : StageRecord Mind) → Windows S window g parts h
        → (w : World Mind) × IsWorld S w × StandsFor S window h w × ((rest : List EntryRecord) × IsTrace S (end_to_end parts ++ rest) × (h.start ≡ S.horizon → rest ≡ []))
    windows_trace g stands parts h run =
        let r = windows_run parts (opening S) (opening_world S sound) g h stands run in
        let more = run_exists S sound S.horizon r.1 r.4 in (
          r.1,
          r.4,
          r.5,
          (
            entries more.0,
            (r.0 ++ more.0, more.1, r.2 more.0 more.1 more.2, (λ i. r.3 i ++ entries more.0) ∙ sym (map-append (λ (s : Pair). s.0) r.0 more.0)),
            over r.1 r.4 r.5 more.0 more.1 more.2,
          ),
        )
      where
        over : (w : World Mind) → IsWorld S w → StandsFor S window h w → (l : List Pair) (v : World Mind) → Run S S.horizon w l v → h.start ≡ S.horizon → entries l ≡ []
        over w is_world stands2 [] v run2 at = refl
        over w is_world stands2 (s ∷ l) v run2 at = absurd (omega (arith, stands2.late s.0.key s.1 run2.0.there, is_world.below s.0.key s.1 run2.0.there))
