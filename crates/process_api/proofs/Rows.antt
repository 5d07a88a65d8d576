-- One more in a row of cells.
use Rattle.process_api.proofs.Basics.{◌≡◌, ◌⊎◌, ℕ, zero, suc, ◌+◌, ◌-◌, ◌<◌, ◌≤◌, inl, inr, refl, sym, ap, ◌∙◌, subst, Bool, true, false, cond, ◌&&◌, ◌||◌, nat_eq, nat_le, nat_lt, Option, None, Some, is_some, unwrap_or, Ordering, Less, Equal, Greater, is_eq, nat_cmp, true≢false, BTreeMap, List, [], ◌∷◌, ◌++◌, length, get_or, arith, nat_cmp-IsAntisymmetric, get_or-set_same, get_or-set_other, cases_eq, eq-eqb, ne_eqb, eqb-true, nat_tests, members, all_to, keep, by_number, by_row, in_row, of_sender, count_to, keep_one, cell_of, AreSenders, Processes, up_to, Row}
use Rattle.process_api.proofs.{Contains.{contains-up_to, same_members}, Told.{contains-members, len-more}}
use Rattle.std.specs.FinSet as set
use Rattle.std.specs.BTreeMap as tree
use Rattle.std.proofs.Math.ListN as list
use Rattle.std.proofs.lemmas.Cmp.{tied_itself, nat_cmp_total}

pub same_number : (a b : ℕ) → is_eq (nat_cmp a b) ≡ nat_eq b a
same_number a b = go (cases_eq b a)
  where
    not_equal : (r : Ordering) → nat_cmp a b ≡ r → (b ≡ a → ⊥) → is_eq r ≡ false
    not_equal Less e n = refl
    not_equal Equal e n = absurd (n (sym (nat_cmp-IsAntisymmetric a b e)))
    not_equal Greater e n = refl

    go : (b ≡ a) ⊎ (b ≡ a → ⊥) → is_eq (nat_cmp a b) ≡ nat_eq b a
    go (inl e) = ap is_eq (subst (λ z. nat_cmp a z ≡ Equal) (sym e) (tied_itself nat_cmp_total a)) ∙ sym (eq-eqb b a e)
    go (inr n) = not_equal (nat_cmp a b) refl n ∙ sym (ne_eqb b a n)

module _ {X : Type 0} where
  pub filled : (o : Option X) (x : X) → is_some o ≡ true → o ≡ Some (unwrap_or o x)
  filled None x e = absurd (true≢false (sym e))
  filled (Some y) x e = refl

  pub no_cell : (xs : List (Option X)) (q : ℕ) → xs ≡ [] → cell_of xs q ≡ None
  no_cell xs zero e = refl
  no_cell xs (suc k) e = ap (λ ys. get_or ys k None) e

  pub no_senders : (s : Processes) (xs : List (Option X)) → s ≡ set.empty → xs ≡ [] → AreSenders s xs
  no_senders s xs e f q = ap (λ z. set.contains z q) e ∙ (set.contains-empty nat_cmp q ∙ sym (ap is_some (no_cell xs q f)))

  -- one cell is filled
  pub cell_set : (xs : List (Option X)) (place : ℕ) (x : X) → place < length xs → (q : ℕ) → cell_of (list.set xs place (Some x)) q ≡ cond (nat_eq q (place + 1)) (Some x) (cell_of xs q)
  cell_set xs place x room zero = go (nat_eq 0 (place + 1)) refl
    where
      go : (b : Bool) → nat_eq 0 (place + 1) ≡ b → None ≡ cond b (Some x) None
      go true e = absurd (let h : 0 ≡ place + 1 = eqb-true 0 (place + 1) e in omega arith)
      go false e = refl
  cell_set xs place x room (suc k) = go (cases_eq k place)
    where
      go : (k ≡ place) ⊎ (k ≡ place → ⊥) → get_or (list.set xs place (Some x)) k None ≡ cond (nat_eq (suc k) (place + 1)) (Some x) (get_or xs k None)
      go (inl e) = ap (λ z. get_or (list.set xs place (Some x)) z None) e ∙ (get_or-set_same xs place (Some x) None room ∙ ap (λ b. cond b (Some x) (get_or xs k None)) (sym (eq-eqb (suc k) (place + 1) (omega (arith, e)))))
      go (inr n) = get_or-set_other xs place k (Some x) None n ∙ ap (λ b. cond b (Some x) (get_or xs k None)) (sym (ne_eqb (suc k) (place + 1) (λ e. n (omega (arith, e)))))

  -- a letter that is new
  pub kept_new : (xs ys : List (Option X)) (sender place : ℕ) (x : X) → sender ≡ place + 1 → cell_of ys ≡ cell_of xs → place < length ys → is_some (cell_of xs sender) ≡ false
      → cell_of (list.set ys place (Some x)) ≡ keep_one (cell_of xs) sender x
  kept_new xs ys sender place x at_place same room new = λ i q. at q i
    where
      none : (o : Option X) → is_some o ≡ false → o ≡ None
      none None e = refl
      none (Some y) e = absurd (true≢false e)

      at : (q : ℕ) → cell_of (list.set ys place (Some x)) q ≡ keep_one (cell_of xs) sender x q
      at q = cell_set ys place x room q ∙ ((λ i. cond (nat_eq q (sym at_place i)) (Some x) (same i q)) ∙ ap (λ o. cond (nat_eq q sender) (Some (unwrap_or o x)) (cell_of xs q)) (sym (none (cell_of xs sender) new)))

  pub sender_new : (s : Processes) (xs ys : List (Option X)) (sender place : ℕ) (x : X) → sender ≡ place + 1 → cell_of ys ≡ cell_of xs → place < length ys → AreSenders s xs
      → AreSenders (set.insert s sender) (list.set ys place (Some x))
  sender_new s xs ys sender place x at_place same room were q =
      set.contains-insert nat_cmp_total s sender q ∙ ((λ i. same_number q sender i || were q i) ∙ (go (nat_eq sender q) (nat_eq q (place + 1)) (turned (cases_eq q sender)) ∙ sym (ap is_some (cell_set ys place x room q))))
    where
      turned : (q ≡ sender) ⊎ (q ≡ sender → ⊥) → nat_eq sender q ≡ nat_eq q (place + 1)
      turned (inl e) = eq-eqb sender q (sym e) ∙ sym (eq-eqb q (place + 1) (e ∙ at_place))
      turned (inr n) = ne_eqb sender q (λ e. n (sym e)) ∙ sym (ne_eqb q (place + 1) (λ e. n (e ∙ sym at_place)))

      go : (b c : Bool) → b ≡ c → (b || is_some (cell_of xs q)) ≡ is_some (cond c (Some x) (cell_of ys q))
      go true true e = refl
      go true false e = absurd (true≢false e)
      go false true e = absurd (true≢false (sym e))
      go false false e = ap (λ f. is_some (f q)) (sym same)

  -- a round's row changes as one letter is kept
  pub row_changed : (t u : BTreeMap ℕ (Row X)) (round sender : ℕ) (x : X) (row : Row X) → tree.Updates nat_cmp t u round (Some row)
      → of_sender row ≡ keep_one (in_row (by_number t round)) sender x → by_row (by_number u) ≡ keep (by_row (by_number t)) round sender x
  row_changed t u round sender x row updates kept = λ i r q. at r q i
    where
      at : (r q : ℕ) → by_row (by_number u) r q ≡ keep (by_row (by_number t)) round sender x r q
      at r q = ap (λ o. in_row o q) (updates.0 r ∙ ap (λ b. cond b (Some row) (by_number t r)) (same_number round r)) ∙ go (nat_eq r round) refl
        where
          go : (b : Bool) → nat_eq r round ≡ b
              → in_row (cond b (Some row) (by_number t r)) q ≡ cond (b && nat_eq q sender) (Some (unwrap_or (in_row (by_number t round) sender) x)) (in_row (by_number t r) q)
          go true e = ap (λ f. f q) kept ∙ ap (λ z. cond (nat_eq q sender) (Some (unwrap_or (in_row (by_number t round) sender) x)) (in_row (by_number t z) q)) (sym (eqb-true r round e))
          go false e = refl

  -- what is kept already stays
  pub keep_there : (f : ℕ → ℕ → Option X) (round sender : ℕ) (x : X) → is_some (f round sender) ≡ true → f ≡ keep f round sender x
  keep_there f round sender x there = λ i r q. at r q i
    where
      at : (r q : ℕ) → f r q ≡ keep f round sender x r q
      at r q = go (nat_eq r round) (nat_eq q sender) refl refl
        where
          go : (b c : Bool) → nat_eq r round ≡ b → nat_eq q sender ≡ c → f r q ≡ cond (b && c) (Some (unwrap_or (f round sender) x)) (f r q)
          go true true d e = (λ i. f (eqb-true r round d i) (eqb-true q sender e i)) ∙ filled (f round sender) x there
          go true false d e = refl
          go false c d e = refl

  -- an empty cell at the end changes nothing
  pushed_at : (xs : List (Option X)) (k : ℕ) → get_or (xs ++ None ∷ []) k None ≡ get_or xs k None
  pushed_at [] zero = refl
  pushed_at [] (suc k) = refl
  pushed_at (x ∷ xs) zero = refl
  pushed_at (x ∷ xs) (suc k) = pushed_at xs k

  pub pushed : (xs : List (Option X)) → cell_of (xs ++ None ∷ []) ≡ cell_of xs
  pushed xs = λ i q. at q i
    where
      at : (q : ℕ) → cell_of (xs ++ None ∷ []) q ≡ cell_of xs q
      at zero = refl
      at (suc k) = pushed_at xs k

-- a row that isn't there has no letters
pub none_counted : (n : ℕ) → count_to n (λ q. false) ≡ 0
none_counted zero = refl
none_counted (suc n) = ap (λ z. z + 0) (none_counted n)

one_more_most : (n k : ℕ) (b : Bool) → k ≤ n → k + cond b 1 0 ≤ suc n
one_more_most n k b h = grind (h, arith)

pub count_most : (n : ℕ) (f : ℕ → Bool) → count_to n f ≤ n
count_most zero f = omega arith
count_most (suc n) f = one_more_most n _ (f (suc n)) (count_most n f)

-- how many of 1 to n are in a set
len_members : (s : Processes) (n : ℕ) → set.len (members n (λ i. set.contains s (suc i))) ≡ count_to n (set.contains s)
unfolding members
len_members s zero = set.len-empty nat_cmp
len_members s (suc n) = len-more (λ i. set.contains s (suc i)) n ∙ ap (λ k. k + cond (set.contains s (suc n)) 1 0) (len_members s n)

cut : (s : Processes) (n q : ℕ) → set.contains s 0 ≡ false → ((nat_lt 0 q && nat_le q n) && set.contains s (suc (q - 1))) ≡ (set.contains s q && nat_le q n)
cut s n q none = grind (none, arith, nat_tests)

len-up_to : (s : Processes) (n : ℕ) → set.contains s 0 ≡ false → set.len (up_to n s) ≡ count_to n (set.contains s)
len-up_to s n none =
    ap set.len (same_members (up_to n s) (members n (λ i. set.contains s (suc i))) (λ q. contains-up_to n s q ∙ sym (contains-members (λ i. set.contains s (suc i)) n q ∙ cut s n q none)))
    ∙ len_members s n

-- the senders of a row are counted
pub counted : {X : Type 0} (s : Processes) (xs : List (Option X)) (n : ℕ) → AreSenders s xs → set.len (up_to n s) ≡ count_to n (λ q. is_some (cell_of xs q))
counted s xs n were = len-up_to s n (were 0) ∙ ap (count_to n) (λ i q. were q i)

-- all are meant, if so many are
one_more_all : (n k : ℕ) (all b : Bool) → k ≤ n → nat_eq k n ≡ all → nat_eq (k + cond b 1 0) (suc n) ≡ (all && b)
one_more_all n k all b most h = grind (most, h, arith, nat_tests)

count_all : (n : ℕ) (f : ℕ → Bool) → nat_eq (count_to n f) n ≡ all_to n f
count_all zero f = refl
count_all (suc n) f = one_more_all n (count_to n f) (all_to n f) (f (suc n)) (count_most n f) (count_all n f)

pub len_all : (told : ℕ → Bool) (m n : ℕ) → nat_eq (set.len (up_to n (members m told))) n ≡ all_to n (set.contains (members m told))
len_all told m n = ap (λ k. nat_eq k n) (len-up_to (members m told) n (contains-members told m 0)) ∙ count_all n (set.contains (members m told))
