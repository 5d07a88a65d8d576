-- On each link letters are numbered from 1, without a gap.
use Rattle.runs.proofs.Words.{◌≡◌, ◌≢◌, ℕ, ◌+◌, refl, sym, ap, ◌∙◌, subst, Bool, true, false, cond, List, [], ◌∷◌, ◌++◌, filter, length, map, arith, ◌==◌, ◌&&◌, range_with_len, filter-append, eqb-true, eqb-false, eq-eqb, ne_eqb, Action, Key, StepInput, Record, Posted, posting, posted_by, posted_in, posted_along, setting_of, Setting, Process, counted, counts_after, raised, step, letter_of, AreLetters, AreNumbered, numbers_on, Letter}
use Rattle.{runs.proofs.OneStep.{step_cases}, std.proofs.lemmas.List.{length-append, map-append}}
use Rattle.process_api.specs.declared.action.Action.TheVariants.{Send, Wake, Note}
use Rattle.trace_laws.specs.World.{World, Pair, opening, taken}

-- ---- numbers that follow one another

abbrev From : ℕ → List ℕ → Type 0
From n [] = Unit {0}
From n (m ∷ ms) = (m ≡ n) × From (n + 1) ms

from_append : (n : ℕ) (xs ys : List ℕ) → From n xs → From (n + length xs) ys → From n (xs ++ ys)
from_append n [] ys first rest =
    let same : n + 0 ≡ n = omega arith in
    subst (λ k. From k ys) same rest
from_append n (x ∷ xs) ys first rest =
    let same : n + length (x ∷ xs) ≡ n + 1 + length xs = omega arith in
    (first.0, from_append (n + 1) xs ys first.1 (subst (λ k. From k ys) same rest))

from_range : (n : ℕ) (xs : List ℕ) → From n xs → xs ≡ range_with_len n (length xs)
from_range n [] from = refl
from_range n (x ∷ xs) from =
    ap (λ k. k ∷ xs) from.0 ∙ ap (λ l. n ∷ l) (from_range (n + 1) xs from.1)

-- numbers that follow a count, which then has risen to another one
abbrev Steps : ℕ → List ℕ → ℕ → Type 0
Steps c ns d = From (c + 1) ns × (d ≡ c + length ns)

steps_from : (c d : ℕ) (xs ys : List ℕ) → Steps c xs d → From (d + 1) ys → From (c + 1) (xs ++ ys)
steps_from c d xs ys first rest =
    let same : d + 1 ≡ c + 1 + length xs = omega (arith, first.1) in
    from_append (c + 1) xs ys first.0 (subst (λ k. From k ys) same rest)

steps_join : (c d e : ℕ) (xs ys : List ℕ) → Steps c xs d → Steps d ys e → Steps c (xs ++ ys) e
steps_join c d e xs ys first rest =
    let long = length-append xs ys in
    (steps_from c d xs ys first rest.0, omega (arith, first.1, rest.1, long))

steps_as : (c d e : ℕ) (ns ms : List ℕ) → ns ≡ ms → d ≡ e → Steps c ms e → Steps c ns d
steps_as c d e ns ms same is steps = subst (λ l. Steps c l d) (sym same) (subst (Steps c ms) (sym is) steps)

none : (c : ℕ) → Steps c [] c
none c = (tt, omega arith)

-- ---- of a link

abbrev on : (p q : ℕ) → Posted → Bool
on p q l = (l.key.sender == p) && (l.key.receiver == q)

abbrev its : (p q : ℕ) → List Posted → List ℕ
its p q ls = map (λ l. l.key.number) (filter (on p q) ls)

its_append : (p q : ℕ) (xs ys : List Posted) → its p q (xs ++ ys) ≡ its p q xs ++ its p q ys
its_append p q xs ys = ap (map (λ l. l.key.number)) (filter-append (on p q) xs ys) ∙ map-append (λ (l : Posted). l.key.number) (filter (on p q) xs) (filter (on p q) ys)

module _ {Mind : Type 0} (S : Setting Mind) where
  -- letters of a process on its link to another
  module _ (p q now : ℕ) (apart : p ≢ q) where
    one_own : (counts : ℕ → ℕ) (a : Action) → Steps (counts q) (its p q (posting S p now counts a)) (counted p counts a q)
    one_own counts (Send to what) = go (to == p) (to == q) refl refl
      where
        letter : Posted
        letter = record { key = record { tick = now; receiver = to; sender = p; number = counts to + 1 }; payload = what; fate = S.fate p to (counts to + 1) now }

        here : p == p ≡ true
        here = eq-eqb p p refl

        kept : to ≢ q → raised counts to q ≡ counts q
        kept other = ap (λ b. cond b (counts to + 1) (counts q)) (ne_eqb q to (λ h. other (sym h)))

        go : (b c : Bool) → (to == p) ≡ b → (to == q) ≡ c → Steps (counts q) (its p q (cond b [] (letter ∷ []))) (raised counts to q)
        go true c at_p at_q = steps_as (counts q) _ (counts q) [] [] refl (kept (λ h. apart (sym (eqb-true to p at_p) ∙ h))) (none (counts q))
        go false true at_p at_q =
            let same : to ≡ q = eqb-true to q at_q in
            let counted_so : counts to ≡ counts q = ap counts same in
            let test : on p q letter ≡ true = ap (λ b. b && (to == q)) here ∙ at_q in
            steps_as (counts q) _ (counts to + 1) _ ((counts to + 1) ∷ [])
            (ap (λ b. map (λ l. l.key.number) (cond b (letter ∷ []) [])) test)
            (ap (λ b. cond b (counts to + 1) (counts q)) (eq-eqb q to (sym same)))
            ((omega (arith, counted_so), tt), omega (arith, counted_so))
        go false false at_p at_q =
            let test : on p q letter ≡ false = ap (λ b. b && (to == q)) here ∙ at_q in
            steps_as (counts q) _ (counts q) _ [] (ap (λ b. map (λ l. l.key.number) (cond b (letter ∷ []) [])) test) (kept (eqb-false to q at_q)) (none (counts q))
    one_own counts (Wake pause tag) =
        steps_as (counts q) _ (counts q) [] [] refl (ap (λ b. cond b (counts p + 1) (counts q)) (ne_eqb q p (λ h. apart (sym h)))) (none (counts q))
    one_own counts (Note note) = none (counts q)

    all_own : (counts : ℕ → ℕ) (actions : List Action) → Steps (counts q) (its p q (posted_by S p now counts actions)) (counts_after p counts actions q)
    all_own counts [] = none (counts q)
    all_own counts (a ∷ actions) =
        steps_as (counts q) _ _ _ _ (its_append p q (posting S p now counts a) (posted_by S p now (counted p counts a) actions)) refl
        (steps_join (counts q) (counted p counts a q) (counts_after p (counted p counts a) actions q) (its p q (posting S p now counts a)) (its p q (posted_by S p now (counted p counts a) actions))
        (one_own counts a) (all_own (counted p counts a) actions))

  -- other processes put none on it
  module _ (p q r now : ℕ) (apart : r ≢ p) where
    one_other : (counts : ℕ → ℕ) (a : Action) → its p q (posting S r now counts a) ≡ []
    one_other counts (Send to what) = go (to == r)
      where
        letter : Posted
        letter = record { key = record { tick = now; receiver = to; sender = r; number = counts to + 1 }; payload = what; fate = S.fate r to (counts to + 1) now }

        go : (b : Bool) → its p q (cond b [] (letter ∷ [])) ≡ []
        go true = refl
        go false = ap (λ b. map (λ l. l.key.number) (cond (b && (to == q)) (letter ∷ []) [])) (ne_eqb r p apart)
    one_other counts (Wake pause tag) = refl
    one_other counts (Note note) = refl

    all_other : (counts : ℕ → ℕ) (actions : List Action) → its p q (posted_by S r now counts actions) ≡ []
    all_other counts [] = refl
    all_other counts (a ∷ actions) =
        its_append p q (posting S r now counts a) (posted_by S r now (counted r counts a) actions)
        ∙ (ap (λ l. l ++ its p q (posted_by S r now (counted r counts a) actions)) (one_other counts a) ∙ all_other (counted r counts a) actions)

  module _ (before : Process Mind) (key : Key) (x : StepInput) where
    step_own : (q : ℕ) → key.receiver ≢ q → Steps (before.counts q) (its key.receiver q (posted_in S before key x)) ((step S before key x).process.counts q)
    step_own q apart =
        step_cases S before key x (λ m posted. Steps (before.counts q) (its key.receiver q posted) (m.process.counts q)) (none (before.counts q))
        (all_own key.receiver q key.tick apart before.counts (S.react before.mind key.tick x).actions)

    step_other : (p q : ℕ) → key.receiver ≢ p → its p q (posted_in S before key x) ≡ []
    step_other p q apart =
        step_cases S before key x (λ _ posted. its p q posted ≡ []) refl (all_other p q key.receiver key.tick apart before.counts (S.react before.mind key.tick x).actions)

  along : (p q : ℕ) → p ≢ q → (h : List Pair) (w : World Mind) → From ((w.process p).counts q + 1) (its p q (posted_along S w h))
  along p q apart [] w = tt
  along p q apart (s ∷ h) w = go (along p q apart h (taken S w s.0.key s.1)) (p == s.0.key.receiver) refl
    where
      r : ℕ
      r = s.0.key.receiver

      next : World Mind
      next = taken S w s.0.key s.1

      first : List Posted
      first = posted_in S (w.process r) s.0.key s.1

      own : p ≡ r → p == r ≡ true → Steps ((w.process p).counts q) (its p q first) ((next.process p).counts q)
      own same is =
          let P : ℕ → Type 0 = λ k. Steps ((w.process k).counts q) (its k q first) ((step S (w.process r) s.0.key s.1).process.counts q) in
          let after : (next.process p).counts q ≡ (step S (w.process r) s.0.key s.1).process.counts q = ap (λ b. (cond b (step S (w.process r) s.0.key s.1).process (w.process p)).counts q) is in
          steps_as ((w.process p).counts q) _ _ _ _ refl after
          (subst P (sym same) (step_own (w.process r) s.0.key s.1 q (λ h. apart (same ∙ h))))

      both : its p q (posted_along S w (s ∷ h)) ≡ its p q first ++ its p q (posted_along S next h)
      both = its_append p q first (posted_along S next h)

      go : From ((next.process p).counts q + 1) (its p q (posted_along S next h)) → (b : Bool) → (p == r) ≡ b
          → From ((w.process p).counts q + 1) (its p q (posted_along S w (s ∷ h)))
      go later true is = subst (From ((w.process p).counts q + 1)) (sym both) (steps_from _ _ _ _ (own (eqb-true p r is) is) later)
      go later false is =
          let after : (next.process p).counts q ≡ (w.process p).counts q = ap (λ b. (cond b (step S (w.process r) s.0.key s.1).process (w.process p)).counts q) is in
          let none_first : its p q first ≡ [] = step_other (w.process r) s.0.key s.1 p q (λ h. eqb-false p r is (sym h)) in
          subst (From ((w.process p).counts q + 1)) (sym (both ∙ ap (λ l. l ++ its p q (posted_along S next h)) none_first))
          (subst (λ c. From (c + 1) (its p q (posted_along S next h))) after later)

  -- what is told of them
  told_numbers : (p q : ℕ) (ls : List Posted) → numbers_on p q (map (letter_of S) ls) ≡ its p q ls
  told_numbers p q [] = refl
  told_numbers p q (l ∷ ls) =
      let told = map (letter_of S) ls in
      let here : Letter → Bool = λ t. (t.sender == p) && (t.receiver == q) in
      elim (on p q l) as (λ b. map (λ t. t.number) (cond b (letter_of S l ∷ filter here told) (filter here told)) ≡ map (λ m. m.key.number) (cond b (l ∷ filter (on p q) ls) (filter (on p q) ls))) [
        | true ↦ ap (λ ns. l.key.number ∷ ns) (told_numbers p q ls)
        | false ↦ told_numbers p q ls
      ]

pub letters_are_numbered : (s : Record) (letters : List Letter) → AreLetters s letters → AreNumbered letters
letters_are_numbered s letters (posted, (history, last, run, is), told) = λ p q apart.
    let S = setting_of s in
    let same : numbers_on p q letters ≡ its p q (posted_along S (opening S) history) =
    ap (numbers_on p q) told ∙ (told_numbers S p q posted ∙ ap (its p q) is) in
    let from : From 1 (its p q (posted_along S (opening S) history)) = along S p q apart history (opening S) in
    from_range 1 (numbers_on p q letters) (subst (From 1) (sym same) from)
