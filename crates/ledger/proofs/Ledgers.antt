-- Each step of a pass keeps the ledger's rule.
use Rattle.ledger.proofs.Words.{◌≡◌, ◌≢◌, inl, inr, ℕ, zero, suc, ◌+◌, List, [], ◌∷◌, ◌++◌, Option, Some, None, set, sym, refl, ap, ◌∙◌, subst, append_assoc, append-nil, arith, ⊎_elim, length-append, Contains, flat_map, sum_by, IsPermutation, nil_from_length, sum_by-cons, sum_by-append, IsPermutation-refl, IsPermutation-append_left, IsPermutation-middle, IsPermutation-trans, IsPermutation-sym, Contains-permutation, length_permutation, some, some-injective, some-ne-none, get_elem?}
use Rattle.ledger.proofs.Totals.{total_set, total_none, none_total, gather_same, gather_more, gather_none, set_commutes}
use Rattle.std.proofs.lemmas.{Option.{none-some}, List.{Elements.{All-nil, All-cons}, Concat.{flat_map-append}}}
use Rattle.{crossbeam_queue.proofs.Lists.{at_set, at_snoc, set_else}, ledger.specs.declared.account.Account.{Account}}
use Rattle.ledger.specs.Ledger.{account, first_pass, has_put, has_taken, one_made, new_pass, both_of, given_back, tells, forgets, told_in, MayTell, AreTold, IsBalanced, FirstCounts, IdleIsEmpty, AreToldAlike, IsToldRight, put_by_all, taken_by_all, EachOnce}

module _ {T : Type 0} where
  -- ---- lists of passes

  there : (l : List (Account T)) (i : ℕ) (a b : Account T) → get_elem? l i ≡ some b → get_elem? (set l i a) i ≡ some a
  there [] i a b at = absurd (some-ne-none b (sym at))
  there (x ∷ xs) zero a b at = refl
  there (x ∷ xs) (suc i) a b at = there xs i a b at

  set_back : (l : List (Account T)) (i : ℕ) (a b : Account T) → get_elem? l i ≡ some b → set (set l i a) i b ≡ l
  set_back [] i a b at = absurd (some-ne-none b (sym at))
  set_back (x ∷ xs) zero a b at = ap (λ y. y ∷ xs) (sym (some-injective x b at))
  set_back (x ∷ xs) (suc i) a b at = ap (λ l. x ∷ l) (set_back xs i a b at)

  -- what one pass hands to another stays the same in all
  handed : (g : Account T → List T) (views : List (Account T)) (port other : ℕ) (v w both spent : Account T) → get_elem? views port ≡ some v → get_elem? views other ≡ some w → other ≢ port
      → g both ≡ g v ++ g w → g spent ≡ [] → IsPermutation (flat_map g views) (flat_map g (set (set views port both) other spent))
  handed g views port other v w both spent at at' apart e z =
      let less : List (Account T) = set views other spent in
      let old : set less other w ≡ views = set_back views other spent w at' in
      let one : IsPermutation (flat_map g less ++ g w) (flat_map g views) =
      subst (λ (l : List (Account T)). IsPermutation (flat_map g less ++ g w) (flat_map g l)) old (gather_more g less other spent w (g w) (there views other spent w at') (sym ((λ i. z i ++ g w) ∙ refl))) in
      let two : IsPermutation (flat_map g less ++ g w) (flat_map g (set less port both)) = gather_more g less port v both (g w) (set_else views other port spent (λ s. apart (sym s)) ∙ at) e in
      subst (λ (l : List (Account T)). IsPermutation (flat_map g views) (flat_map g l)) (sym (set_commutes views port other both spent apart)) (IsPermutation-trans _ _ _ (IsPermutation-sym _ _ one) two)

  -- what the new pass lacks, and the first keeps, is the same in all
  grown_same : (g : Account T → List T) (views : List (Account T)) (port : ℕ) (v l r : Account T) → get_elem? views port ≡ some v → g l ≡ g v → g r ≡ [] → flat_map g (set views port l ++ r ∷ []) ≡ flat_map g views
  grown_same g views port v l r at e z =
      flat_map-append g (set views port l) (r ∷ []) ∙ ap (λ ys. flat_map g (set views port l) ++ ys) ((λ i. z i ++ []) ∙ refl) ∙ append-nil (flat_map g (set views port l)) ∙ gather_same g views port v l at e

  alone : (g : Account T → List T) (views : List (Account T)) (v : Account T) → get_elem? views 0 ≡ some v → ((j : ℕ) (u : Account T) → get_elem? views j ≡ some u → j ≢ 0 → g u ≡ []) → flat_map g views ≡ g v
  alone g [] v at z = absurd (some-ne-none v (sym at))
  alone g (x ∷ xs) v at z = (λ i. g (some-injective x v at i) ++ gather_none g xs (λ j u here. z (suc j) u here (λ e. absurd (omega arith))) i) ∙ append-nil (g v)

  -- ---- the rule's parts

  -- what holds of the pass that is set and of each other one, and of each old pass and the new one
  set_each : (P : ℕ → Account T → Type 0) (views : List (Account T)) (port : ℕ) (w : Account T) → P port w → ((j : ℕ) (u : Account T) → j ≢ port → get_elem? views j ≡ some u → P j u)
      → (j : ℕ) (u : Account T) → get_elem? (set views port w) j ≡ some u → P j u
  set_each P views port w mine others j u here =
      ⊎_elim (λ (x : (j ≡ port) × (w ≡ u)). subst (λ k. P k u) (sym x.0) (subst (P port) x.1 mine)) (λ (x : (j ≢ port) × (get_elem? views j ≡ some u)). others j u x.0 x.1) (at_set views port j w u here)

  new_each : (P : ℕ → Account T → Type 0) (views : List (Account T)) (r : Account T) → ((j : ℕ) → P j r) → ((j : ℕ) (u : Account T) → get_elem? views j ≡ some u → P j u) → (j : ℕ) (u : Account T) → get_elem? (views ++ r ∷ []) j ≡ some u → P j u
  new_each P views r mine old j u here = ⊎_elim (old j u) (λ (new : r ≡ u). subst (P j) new (mine j)) (at_snoc views r u j here)

  first_set : (views : List (Account T)) (port : ℕ) (w : Account T) → (port ≢ 0 → w.made ≡ 0) → FirstCounts views → FirstCounts (set views port w)
  first_set views port w mine first = set_each (λ j u. j ≢ 0 → u.made ≡ 0) views port w mine (λ j u _. first j u)

  idle_set : (views : List (Account T)) (port : ℕ) (w : Account T) → (w.parts ≡ 0 → (w.put ≡ []) × (w.taken ≡ [])) → IdleIsEmpty views → IdleIsEmpty (set views port w)
  idle_set views port w mine idle = set_each (λ _ u. u.parts ≡ 0 → (u.put ≡ []) × (u.taken ≡ [])) views port w mine (λ j u _. idle j u)

  -- among these passes one that isn't given back was told this
  abbrev Knows : List (Account T) → Option (List T) → Type 0
  Knows views told = (port : ℕ) × (v : Account T) × (get_elem? views port ≡ some v) × (v.parts ≢ 0) × (v.told ≡ told)

  -- what the passes are told, some of the others are told
  abbrev Follow : List (Account T) → List (Account T) → Type 0
  Follow news olds = (j : ℕ) (u : Account T) → get_elem? news j ≡ some u → u.parts ≢ 0 → Knows olds u.told

  follow_set : (views : List (Account T)) (port : ℕ) (w : Account T) → (w.parts ≢ 0 → Knows views w.told) → Follow (set views port w) views
  follow_set views port w mine = set_each (λ _ u. u.parts ≢ 0 → Knows views u.told) views port w mine (λ j u _ here lives. (j, u, here, lives, refl))

  follow_new : (views : List (Account T)) (r : Account T) → Knows views r.told → Follow (views ++ r ∷ []) views
  follow_new views r knows = new_each (λ _ u. u.parts ≢ 0 → Knows views u.told) views r (λ _ _. knows) (λ j u here lives. (j, u, here, lives, refl))

  follow_both : (a b c : List (Account T)) → Follow a b → Follow b c → Follow a c
  follow_both a b c f g j u here lives = let o = f j u here lives in subst (Knows c) o.4 (g o.0 o.1 o.2 o.3)

  alike_kept : (news olds : List (Account T)) → Follow news olds → AreToldAlike olds → AreToldAlike news
  alike_kept news olds f alike i j a b at at' la lb =
      let x = f i a at la in
      let y = f j b at' lb in
      sym x.4 ∙ alike x.0 y.0 x.1 y.1 x.2 y.2 x.3 y.3 ∙ y.4

  told_kept : (news olds : List (Account T)) → Follow news olds → IsPermutation (put_by_all olds) (put_by_all news) → IsToldRight olds → IsToldRight news
  told_kept news olds f same told i a all at la is = let x = f i a at la in IsPermutation-trans _ _ _ (told x.0 x.1 all x.2 x.3 (x.4 ∙ is)) same

  by_same : (a b : List T) → a ≡ b → IsPermutation a b
  by_same a b e = subst (IsPermutation a) e (IsPermutation-refl a)

  -- an account of two sides, to which one side and the other add xs
  both_more : (puts taken items puts' xs : List T) → IsPermutation puts (taken ++ items) → IsPermutation (puts ++ xs) puts' → IsPermutation puts' (taken ++ (items ++ xs))
  both_more puts taken items puts' xs same more =
      IsPermutation-trans _ _ _ (IsPermutation-sym _ _ more) (subst (IsPermutation (puts ++ xs)) (append_assoc taken items xs) (IsPermutation-append_left xs _ _ same))

  -- ---- the steps

  -- a pass puts items, where nobody was told yet
  pub puts : (port : ℕ) (v : Account T) (xs : List T) → v.parts ≢ 0 → v.told ≡ None → (items : List T) (views : List (Account T)) → EachOnce items views → get_elem? views port ≡ some v
      → EachOnce (items ++ xs) (set views port (has_put v xs))
  puts port v xs live untold items views b at =
      let w : Account T = has_put v xs in
      let parts = total_set (λ (u : Account T). u.parts) views port v w at in
      let whole = total_set (λ (u : Account T). u.made) views port v w at in
      let before = b.counted in
      let taken : taken_by_all (set views port w) ≡ taken_by_all views = gather_same (λ (u : Account T). u.taken) views port v w at refl in
      let alike : AreToldAlike (set views port w) = alike_kept _ _ (follow_set views port w (λ _. (port, v, at, live, refl))) b.alike in
      record {
        counted = omega arith;
        first = first_set views port w (b.first port v at) b.first;
        idle = idle_set views port w (λ none. absurd (live none)) b.idle;
        alike = alike;
        told = λ j u all here lives is. absurd (none-some all (sym untold ∙ alike port j w u (there views port w v at) here live lives ∙ is));
        same = subst (λ (l : List T). IsPermutation (put_by_all (set views port w)) (l ++ (items ++ xs))) (sym taken)
            (both_more (put_by_all views) (taken_by_all views) items (put_by_all (set views port w)) xs b.same (gather_more (λ (u : Account T). u.put) views port v w xs at refl));
      }

  -- a pass takes items at the front
  pub takes : (port : ℕ) (v : Account T) (xs : List T) → v.parts ≢ 0 → (items : List T) (views : List (Account T)) → EachOnce (xs ++ items) views → get_elem? views port ≡ some v
      → EachOnce items (set views port (has_taken v xs))
  takes port v xs live items views b at =
      let w : Account T = has_taken v xs in
      let parts = total_set (λ (u : Account T). u.parts) views port v w at in
      let whole = total_set (λ (u : Account T). u.made) views port v w at in
      let before = b.counted in
      let follow = follow_set views port w (λ _. (port, v, at, live, refl)) in
      let put : put_by_all (set views port w) ≡ put_by_all views = gather_same (λ (u : Account T). u.put) views port v w at refl in
      let more : IsPermutation (taken_by_all views ++ xs) (taken_by_all (set views port w)) = gather_more (λ (u : Account T). u.taken) views port v w xs at refl in
      let moved : IsPermutation (put_by_all views) (taken_by_all (set views port w) ++ items) =
      IsPermutation-trans _ _ _ (subst (IsPermutation (put_by_all views)) (sym (append_assoc (taken_by_all views) xs items)) b.same) (IsPermutation-append_left items _ _ more) in
      record {
        counted = omega arith;
        first = first_set views port w (b.first port v at) b.first;
        idle = idle_set views port w (λ none. absurd (live none)) b.idle;
        alike = alike_kept _ _ follow b.alike;
        told = told_kept _ _ follow (by_same _ _ (sym put)) b.told;
        same = subst (λ (l : List T). IsPermutation l (taken_by_all (set views port w) ++ items)) (sym put) moved;
      }

  -- what a pass takes is among what it was told
  pub among : (port : ℕ) (v : Account T) (x : T) → v.parts ≢ 0 → (items : List T) (views : List (Account T)) → EachOnce (x ∷ items) views → get_elem? views port ≡ some v → AreTold v (x ∷ [])
  among port v x live items views b at all told =
      All-cons (Contains all) x []
      (Contains-permutation (x ∷ (taken_by_all views ++ items)) all x
      (IsPermutation-trans _ _ _ (IsPermutation-sym _ _ (IsPermutation-middle (taken_by_all views) x items)) (IsPermutation-sym _ _ (IsPermutation-trans _ _ _ (b.told port v all at live told) b.same)))
      (0, omega arith, refl))
      (All-nil (Contains all))

  -- Where the first pass has every part, the others have none
  others_idle : (views : List (Account T)) (v : Account T) → v.parts ≡ v.made → (items : List T) → EachOnce items views → get_elem? views 0 ≡ some v → (j : ℕ) (u : Account T) → get_elem? views j ≡ some u → j ≢ 0 → u.parts ≡ 0
  others_idle [] v all items b at j u here n = absurd (some-ne-none v (sym at))
  others_idle (x ∷ xs) v all items b at zero u here n = absurd (n refl)
  others_idle (x ∷ xs) v all items b at (suc j) u here n =
      let is : x ≡ v = some-injective x v at in
      let parts : x.parts ≡ x.made = ap (λ (y : Account T). y.parts) is ∙ all ∙ sym (ap (λ (y : Account T). y.made) is) in
      let none : sum_by (λ (y : Account T). y.made) xs ≡ 0 = total_none (λ (y : Account T). y.made) xs (λ k y e. b.first (suc k) y e (λ z. absurd (omega arith))) in
      none_total (λ (y : Account T). y.parts) xs (omega (arith, parts, none, b.counted, sum_by-cons (λ (y : Account T). y.parts) x xs, sum_by-cons (λ (y : Account T). y.made) x xs)) j u here

  others_empty : (views : List (Account T)) (v : Account T) → v.parts ≡ v.made → (items : List T) → EachOnce items views → get_elem? views 0 ≡ some v → (j : ℕ) (u : Account T) → get_elem? views j ≡ some u → j ≢ 0 → (u.put ≡ []) × (u.taken ≡ [])
  others_empty views v all items b at j u here n = b.idle j u here (others_idle views v all items b at j u here n)

  -- of the others none is left but what was told what the first has put, and that is all that was put
  abbrev Settled : List (Account T) → Account T → Type 0
  Settled views v = ((j : ℕ) (u : Account T) → get_elem? views j ≡ some u → j ≢ 0 → u.parts ≢ 0 → u.told ≡ Some v.put) × IsPermutation v.put (put_by_all views)

  settled : (v : Account T) → v.parts ≢ 0 → MayTell v → (items : List T) (views : List (Account T)) → EachOnce items views → get_elem? views 0 ≡ some v → Settled views v
  settled v live (inr told) items views b at = ((λ j u here n lives. b.alike j 0 u v here at lives live ∙ told), b.told 0 v v.put at live told)
  settled v live (inl all) items views b at = (
    (λ j u here n lives. absurd (lives (others_idle views v all items b at j u here n))),
    by_same _ _ (sym (alone (λ (u : Account T). u.put) views v at (λ j u e n. (others_empty views v all items b at j u e n).0))),
  )

  -- The first pass makes one more: its own part of the rule, whatever the two have and are told
  one_more : (port : ℕ) (v : Account T) (put taken : List T) (told told' : Option (List T)) → port ≡ 0 → v.parts ≢ 0 → (items : List T) (views : List (Account T)) → EachOnce items views → get_elem? views port ≡ some v
      → let news = set views port (account (v.made + 1) v.parts put taken told) ++ new_pass told' ∷ [] in
      AreToldAlike news → IsToldRight news → IsPermutation (put_by_all news) (taken_by_all news ++ items) → EachOnce items news
  one_more port v put taken told told' first live items views b at alike right same =
      let l : Account T = account (v.made + 1) v.parts put taken told in
      let r : Account T = new_pass told' in
      let vs : List (Account T) = set views port l in
      let parts = total_set (λ (u : Account T). u.parts) views port v l at in
      let whole = total_set (λ (u : Account T). u.made) views port v l at in
      let before = b.counted in
      record {
        counted = omega (arith, sum_by-append (λ (u : Account T). u.parts) vs (r ∷ []), sum_by-append (λ (u : Account T). u.made) vs (r ∷ []), sum_by-cons (λ (u : Account T). u.parts) r [], sum_by-cons (λ (u : Account T). u.made) r []);
        first = new_each (λ j u. j ≢ 0 → u.made ≡ 0) vs r (λ _ _. refl) (first_set views port l (λ n. absurd (n first)) b.first);
        idle = new_each (λ _ u. u.parts ≡ 0 → (u.put ≡ []) × (u.taken ≡ [])) vs r (λ _ _. (refl, refl)) (idle_set views port l (λ none. absurd (live none)) b.idle);
        alike = alike;
        told = right;
        same = same;
      }

  -- what it and the others are told where it makes one more that is told what it was told
  follow_one : (views : List (Account T)) (port : ℕ) (v l : Account T) → get_elem? views port ≡ some v → v.parts ≢ 0 → l.parts ≡ v.parts → l.told ≡ v.told → Follow (set views port l ++ new_pass v.told ∷ []) views
  follow_one views port v l at live parts e =
      follow_both _ (set views port l) _ (follow_new (set views port l) (new_pass v.told) (port, l, there views port l v at, (λ z. live (sym parts ∙ z)), e)) (follow_set views port l (λ _. (port, v, at, live, sym e)))

  -- the first pass makes one more, which is told what it was told
  pub splits : (port : ℕ) (v : Account T) → port ≡ 0 → v.parts ≢ 0 → (items : List T) (views : List (Account T)) → EachOnce items views → get_elem? views port ≡ some v
      → EachOnce items (set views port (one_made v) ++ new_pass v.told ∷ [])
  splits port v first live items views b at =
      let follow = follow_one views port v (one_made v) at live refl refl in
      let put = grown_same (λ (u : Account T). u.put) views port v (one_made v) (new_pass v.told) at refl refl in
      let taken = grown_same (λ (u : Account T). u.taken) views port v (one_made v) (new_pass v.told) at refl refl in
      one_more port v v.put v.taken v.told v.told first live items views b at (alike_kept _ _ follow b.alike) (told_kept _ _ follow (by_same _ _ (sym put)) b.told)
      (subst (λ (p : List T × List T). IsPermutation p.0 (p.1 ++ items)) (λ i. (sym put i, sym taken i)) b.same)

  -- the first pass, where it stands for all, knows that what was put is what was taken and what is there
  pub learns : (port : ℕ) (v : Account T) → port ≡ 0 → v.parts ≡ v.made → (items : List T) (views : List (Account T)) → EachOnce items views → get_elem? views port ≡ some v → IsBalanced v items
  learns port v first all items views b at =
      let at' : get_elem? views 0 ≡ some v = ap (λ (k : ℕ). get_elem? views k) (sym first) ∙ at in
      let empty = others_empty views v all items b at' in
      let put = alone (λ (u : Account T). u.put) views v at' (λ j u e n. (empty j u e n).0) in
      let taken = alone (λ (u : Account T). u.taken) views v at' (λ j u e n. (empty j u e n).1) in
      subst (λ (p : List T × List T). IsPermutation p.0 (p.1 ++ items)) (λ i. (put i, taken i)) b.same

  -- the first pass, where it stands for all and has taken all that was put, makes one more and forgets that
  pub settles : (port : ℕ) (v : Account T) → port ≡ 0 → v.parts ≢ 0 → v.parts ≡ v.made → v.told ≡ None → IsPermutation v.put v.taken → (items : List T) (views : List (Account T)) → EachOnce items views
      → get_elem? views port ≡ some v → EachOnce items (set views port (one_made (forgets v)) ++ new_pass v.told ∷ [])
  settles port v first live all untold same items views b at =
      let l : Account T = one_made (forgets v) in
      let r : Account T = new_pass v.told in
      let vs : List (Account T) = set views port l in
      let follow = follow_one views port v l at live refl refl in
      let nothing : (j : ℕ) (u : Account T) → get_elem? (vs ++ r ∷ []) j ≡ some u → (u.put ≡ []) × (u.taken ≡ []) =
      new_each (λ _ u. (u.put ≡ []) × (u.taken ≡ [])) vs r (λ _. (refl, refl)) (set_each (λ _ u. (u.put ≡ []) × (u.taken ≡ [])) views port l (refl, refl)
      (λ j u n here. others_empty views v all items b (ap (λ (k : ℕ). get_elem? views k) (sym first) ∙ at) j u here (λ z. n (z ∙ sym first)))) in
      let put : put_by_all (vs ++ r ∷ []) ≡ [] = gather_none (λ (u : Account T). u.put) (vs ++ r ∷ []) (λ j u here. (nothing j u here).0) in
      let taken : taken_by_all (vs ++ r ∷ []) ≡ [] = gather_none (λ (u : Account T). u.taken) (vs ++ r ∷ []) (λ j u here. (nothing j u here).1) in
      let gone : items ≡ [] = nil_from_length items (omega (arith, length_permutation _ _ same, length_permutation _ _ (learns port v first all items views b at), length-append v.taken items)) in
      one_more port v [] [] v.told v.told first live items views b at (alike_kept (vs ++ r ∷ []) views follow b.alike)
      (λ j u whole here lives is. let k = follow j u here lives in absurd (none-some whole (sym untold ∙ b.alike port k.0 v k.1 at k.2 live k.3 ∙ k.4 ∙ is)))
      (subst (λ (p : List T × List T × List T). IsPermutation p.0 (p.1 ++ p.2)) (λ i. (sym put i, sym taken i, sym gone i)) (IsPermutation-refl []))

  -- the first pass makes one more, and tells it what was put
  pub told : (port : ℕ) (v : Account T) → port ≡ 0 → v.parts ≢ 0 → MayTell v → (items : List T) (views : List (Account T)) → EachOnce items views → get_elem? views port ≡ some v
      → EachOnce items (set views port (one_made (tells v)) ++ new_pass (Some v.put) ∷ [])
  told port v first live may items views b at =
      let l : Account T = one_made (tells v) in
      let r : Account T = new_pass (Some v.put) in
      let s = settled v live may items views b (ap (λ (k : ℕ). get_elem? views k) (sym first) ∙ at) in
      let put = grown_same (λ (u : Account T). u.put) views port v l r at refl refl in
      let taken = grown_same (λ (u : Account T). u.taken) views port v l r at refl refl in
      let is : (j : ℕ) (u : Account T) → get_elem? (set views port l ++ r ∷ []) j ≡ some u → u.parts ≢ 0 → u.told ≡ Some v.put =
      new_each (λ _ u. u.parts ≢ 0 → u.told ≡ Some v.put) (set views port l) r (λ _ _. refl)
      (set_each (λ _ u. u.parts ≢ 0 → u.told ≡ Some v.put) views port l (λ _. refl) (λ j u n here. s.0 j u here (λ z. n (z ∙ sym first)))) in
      one_more port v v.put v.taken (Some v.put) (Some v.put) first live items views b at (λ i j a c at' at'' la lc. is i a at' la ∙ sym (is j c at'' lc))
      (λ i a all here lives e. subst (λ ys. IsPermutation ys (put_by_all (set views port l ++ r ∷ []))) (ap told_in (sym (is i a here lives) ∙ e)) (subst (IsPermutation v.put) (sym put) s.1))
      (subst (λ (p : List T × List T). IsPermutation p.0 (p.1 ++ items)) (λ i. (sym put i, sym taken i)) b.same)

  -- the first pass takes another back
  pub merges : (port : ℕ) (v : Account T) (other : ℕ) (w : Account T) → port ≡ 0 → v.parts ≢ 0 → (items : List T) (views : List (Account T)) → EachOnce items views → get_elem? views port ≡ some v
      → ¬ (other ≡ port) → get_elem? (set views port (both_of v w)) other ≡ some w → EachOnce items (set (set views port (both_of v w)) other given_back)
  merges port v other w first live items views b at apart at'' =
      let both : Account T = both_of v w in
      let spent : Account T = given_back in
      let at' : get_elem? views other ≡ some w = sym (set_else views port other both apart) ∙ at'' in
      let vs : List (Account T) = set views port both in
      let parts = total_set (λ (u : Account T). u.parts) views port v both at in
      let whole = total_set (λ (u : Account T). u.made) views port v both at in
      let parts' = total_set (λ (u : Account T). u.parts) vs other w spent at'' in
      let whole' = total_set (λ (u : Account T). u.made) vs other w spent at'' in
      let before = b.counted in
      let put : IsPermutation (put_by_all views) (put_by_all (set vs other spent)) = handed (λ (u : Account T). u.put) views port other v w both spent at at' apart refl refl in
      let taken : IsPermutation (taken_by_all views) (taken_by_all (set vs other spent)) = handed (λ (u : Account T). u.taken) views port other v w both spent at at' apart refl refl in
      let follow : Follow (set vs other spent) views = follow_both _ vs _ (follow_set vs other spent (λ lives. absurd (lives refl))) (follow_set views port both (λ _. (port, v, at, live, refl))) in
      record {
        counted = omega arith;
        first = first_set vs other spent (λ _. refl) (first_set views port both (λ n. absurd (n first)) b.first);
        idle = idle_set vs other spent (λ _. (refl, refl)) (idle_set views port both (λ none. absurd (live (omega arith))) b.idle);
        alike = alike_kept _ _ follow b.alike;
        told = told_kept _ _ follow put b.told;
        same = IsPermutation-trans _ _ _ (IsPermutation-sym _ _ put) (IsPermutation-trans _ _ _ b.same (IsPermutation-append_left items _ _ taken));
      }

  -- one pass more that rests
  pub admits : (items : List T) (views : List (Account T)) → EachOnce items views → EachOnce items (views ++ given_back ∷ [])
  admits items views b =
      let r : Account T = given_back in
      let follow = new_each (λ _ u. u.parts ≢ 0 → Knows views u.told) views r (λ _ lives. absurd (lives refl)) (λ j u here lives. (j, u, here, lives, refl)) in
      let put : put_by_all (views ++ r ∷ []) ≡ put_by_all views = flat_map-append (λ (u : Account T). u.put) views (r ∷ []) ∙ append-nil (put_by_all views) in
      let taken : taken_by_all (views ++ r ∷ []) ≡ taken_by_all views = flat_map-append (λ (u : Account T). u.taken) views (r ∷ []) ∙ append-nil (taken_by_all views) in
      let before = b.counted in
      record {
        counted = omega (arith, sum_by-append (λ (u : Account T). u.parts) views (r ∷ []), sum_by-append (λ (u : Account T). u.made) views (r ∷ []), sum_by-cons (λ (u : Account T). u.parts) r [], sum_by-cons (λ (u : Account T). u.made) r []);
        first = new_each (λ j u. j ≢ 0 → u.made ≡ 0) views r (λ _ _. refl) b.first;
        idle = new_each (λ _ u. u.parts ≡ 0 → (u.put ≡ []) × (u.taken ≡ [])) views r (λ _ _. (refl, refl)) b.idle;
        alike = alike_kept _ _ follow b.alike;
        told = told_kept _ _ follow (by_same _ _ (sym put)) b.told;
        same = subst (λ (p : List T × List T). IsPermutation p.0 (p.1 ++ items)) (λ i. (sym put i, sym taken i)) b.same;
      }

  -- the first pass, which rests, begins to count
  counts : (items : List T) (views : List (Account T)) → EachOnce items views → get_elem? views 0 ≡ some given_back → EachOnce items (set views 0 first_pass)
  counts items views b at =
      let w : Account T = first_pass in
      let parts = total_set (λ (u : Account T). u.parts) views 0 given_back w at in
      let whole = total_set (λ (u : Account T). u.made) views 0 given_back w at in
      let before = b.counted in
      let put : put_by_all (set views 0 w) ≡ put_by_all views = gather_same (λ (u : Account T). u.put) views 0 given_back w at refl in
      let taken : taken_by_all (set views 0 w) ≡ taken_by_all views = gather_same (λ (u : Account T). u.taken) views 0 given_back w at refl in
      let untold = set_each (λ _ u. u.parts ≢ 0 → u.told ≡ None) views 0 w (λ _. refl) (λ j u n here lives. absurd (lives (others_idle views given_back refl items b at j u here n))) in
      record {
        counted = omega arith;
        first = first_set views 0 w (λ n. absurd (n refl)) b.first;
        idle = idle_set views 0 w (λ none. absurd (omega (arith, none))) b.idle;
        alike = λ i j a c at' at'' la lc. untold i a at' la ∙ sym (untold j c at'' lc);
        told = λ j u all here lives is. absurd (none-some all (sym (untold j u here lives) ∙ is));
        same = subst (λ (p : List T × List T). IsPermutation p.0 (p.1 ++ items)) (λ i. (sym put i, sym taken i)) b.same;
      }

  -- the same, and another that rests comes of it
  pub opens : (port : ℕ) (v : Account T) → port ≡ 0 → v ≡ given_back → (items : List T) (views : List (Account T)) → EachOnce items views → get_elem? views port ≡ some v
      → EachOnce items (set views port first_pass ++ given_back ∷ [])
  opens port v first rests items views b at =
      subst (λ k. EachOnce items (set views k first_pass ++ given_back ∷ [])) (sym first)
      (admits items _ (counts items views b ((λ i. get_elem? views (sym first i)) ∙ at ∙ ap some rests)))

  -- the rule holds of an empty queue
  is_first : (j : ℕ) (u : Account T) → get_elem? (first_pass ∷ []) j ≡ some u → (j ≡ 0) × (first_pass ≡ u)
  is_first zero u at = (refl, some-injective first_pass u at)
  is_first (suc j) u at = absurd (some-ne-none u (sym at))

  pub begins : EachOnce {T = T} [] (first_pass ∷ [])
  begins = record {
    counted = refl;
    first = λ j u at n. absurd (n (is_first j u at).0);
    idle = λ j u at none. let one : 1 ≡ u.parts = ap (λ (y : Account T). y.parts) (is_first j u at).1 in absurd (omega arith);
    alike = λ i j a b at at' la lb. ap (λ (y : Account T). y.told) (sym (is_first i a at).1 ∙ (is_first j b at').1);
    told = λ j u all at lives is. absurd (none-some all (ap (λ (y : Account T). y.told) (is_first j u at).1 ∙ is));
    same = IsPermutation-refl [];
  }
