-- What is dealt to the workers, and what comes back from them.
use Rattle.deques.proofs.Words.{◌≡◌, ◌⊎◌, inl, inr, ℕ, zero, suc, ◌+◌, ◌-◌, ◌<◌, ◌≤◌, ◌%◌, if◌then◌else◌, List, [], ◌∷◌, ◌++◌, length, map, take, drop, set, get_or, nat_eq, Bool, true, false, Some, None, refl, sym, ap, ◌∙◌, subst, append_assoc, append-nil, arith, All, Contains, flat_map, IsPermutation, length-map, map-append, map_more, get_or_default, map-set_same, map-map, All-nil, All-cons, All-get_or, All-head, All-map, All-tail, IsPermutation-refl, IsPermutation-trans, IsPermutation-append_left, IsPermutation-append_right, IsPermutation-append_comm, each_with, mixed_at, with-map, DequeId, Dealt, OwnerView, PermitView, HandView, RestView, permit_of, hand_at, rest_of, deques_of, dealt_of, all_put, one_out, many_out, blank, one_back, MayTell, HasTold, AreBlank, CanHold, IsDealt, with_item, share_from, AreShares, CameBack, Popped, TookLast}
use Rattle.deques.proofs.Dealings.{flat_more, flat_has}
use Rattle.std.proofs.lemmas.{Bool.{cases_eq, eq-eqb, ne_eqb}, List.{Edits.{map_over_more}, Concat.{flat_map-append}, Folds.{flat_map-map}}}

module _ {T : Type 0} where
  put_has : (os : List (OwnerView T)) (i : ℕ) (o : OwnerView T) → o ≡ get_or os i o → i < length os → (x : T) → Contains o.put x → Contains (all_put (map dealt_of os)) x
  put_has os i o is lt x has =
      subst (λ l. Contains l x) (sym (flat_map-map (λ (d : Dealt T). d.1) dealt_of os)) (flat_has (λ (v : OwnerView T). v.put) os i o is lt x has)

  -- ---- permits go out

  abbrev pub Untold : OwnerView T → Type 0
  Untold o = (o.out ≡ 0) × (o.told ≡ None)

  one_may : (n : ℕ) (o : OwnerView T) → Untold o → MayTell (many_out n o)
  one_may zero o is = inl is.0
  one_may (suc n) o is = inr refl

  pub many_may : (n : ℕ) (os : List (OwnerView T)) → All Untold os → All MayTell (map (many_out n) os)
  many_may n os is = All-map MayTell (many_out n) os (λ k d l. one_may n (get_or os k d) (is k d l))

  -- where the owners below a place gave a permit each, the owner at it is as it was, and gives one more
  module _ (hs now : List (OwnerView T)) (i : ℕ) (d : OwnerView T) (value : d ≡ get_or now i d) (so_far : now ≡ map one_out (take i hs) ++ drop i hs) (lt : i < length hs) where
    as_it_was : d ≡ get_or hs i d
    as_it_was = value ∙ (λ j. get_or (so_far j) i d) ∙ mixed_at one_out hs i d

    pub may_give : All MayTell hs → MayTell d
    may_give all = subst MayTell (sym as_it_was) (All-get_or MayTell hs i d lt all)

    pub one_gave : (new : OwnerView T) → new ≡ one_out d → set now i new ≡ map one_out (take (i + 1) hs) ++ drop (i + 1) hs
    one_gave new gave = ap (λ o. set now i o) gave ∙ map_over_more one_out hs now i d lt so_far value

    pub one_given : (given given' : List (PermitView T)) (p : PermitView T) → given ≡ map blank (take i hs) → p ≡ blank d → given' ≡ given ++ p ∷ [] → given' ≡ map blank (take (i + 1) hs)
    one_given given given' p was made more =
        more ∙ (λ j. was j ++ made j ∷ []) ∙ (λ j. map blank (take i hs) ++ blank (as_it_was j) ∷ []) ∙ sym (map_more blank hs i d lt)

  pub hand_own : (o : OwnerView T) (ps : List (PermitView T)) (h : HandView T) → h ≡ hand_at o ps → h.own ≡ dealt_of o
  hand_own o ps h is = ap (λ (v : HandView T). v.own) is

  -- a hand of a deque that told, with blank permits
  pub hand_dealt : (n : ℕ) (own : List (Dealt T)) (o : OwnerView T) (ps : List (PermitView T)) (h : HandView T) → h ≡ hand_at o ps → HasTold n own o → AreBlank n own ps → IsDealt own h
  hand_dealt n own o ps h is told blank = (
    ap (λ (v : HandView T). v.deques) is ∙ blank.1,
    ap (λ (v : HandView T). v.known) is ∙ blank.2,
    ap (λ (v : HandView T). v.taken) is ∙ (λ i. told.2 i ++ blank.3 i),
  )

  -- what permits that go out leave as it is
  same_parts : (n : ℕ) (o : OwnerView T) → ((many_out n o).deque ≡ o.deque) × ((many_out n o).put ≡ o.put) × ((many_out n o).taken ≡ o.taken)
  same_parts zero o = (refl, refl, refl)
  same_parts (suc n) o = same_parts n o

  pub many_blank : (n : ℕ) (os : List (OwnerView T)) → map blank (map (many_out n) os) ≡ map blank os
  many_blank n [] = refl
  many_blank n (o ∷ os) = λ i. permit_of ((same_parts n o).0 i) ((same_parts n o).1 i) [] ∷ many_blank n os i

  pub many_dealt : (n : ℕ) (os : List (OwnerView T)) → map dealt_of (map (many_out n) os) ≡ map dealt_of os
  many_dealt n [] = refl
  many_dealt n (o ∷ os) = λ i. ((same_parts n o).0 i, (same_parts n o).1 i) ∷ many_dealt n os i

  count_out : (n : ℕ) (o : OwnerView T) → o.out ≡ 0 → (many_out n o).out ≡ n
  count_out zero o none = none
  count_out (suc n) o none = let rest = count_out n o none in omega arith

  one_told : (n : ℕ) (o : OwnerView T) → 0 < n → (many_out n o).told ≡ Some (many_out n o).put
  one_told zero o some_out = absurd (omega arith)
  one_told (suc n) o some_out = refl

  abbrev pub New : OwnerView T → Type 0
  New o = (o.out ≡ 0) × (o.taken ≡ []) × (o.told ≡ None)

  told_all : (n : ℕ) (own : List (Dealt T)) (os : List (OwnerView T)) → 0 < n → All New os → ((x : T) → Contains (all_put (map dealt_of os)) x → Contains (all_put own) x)
      → All (HasTold n own) (map (many_out n) os)
  told_all n own os some_out new known = All-map (HasTold n own) (many_out n) os (λ k d l.
      let o = get_or os k d in
      let is : New o = new k d l in
      let same = same_parts n o in
      (count_out n o is.0, one_told n o some_out, same.2 ∙ is.1, λ x here. known x (put_has os k o (get_or_default os k d o l) l x (subst (λ ys. Contains ys x) same.1 here))))

  pub have_told : (os : List (OwnerView T)) (n m : ℕ) (own : List (Dealt T)) → n ≡ length os → m ≡ length os → own ≡ map dealt_of (map (many_out n) os) → All New os → All (HasTold m own) (map (many_out n) os)
  have_told [] n m own len count is new = All-nil (HasTold m own)
  have_told (o ∷ os) n m own len count is new =
      let more : 0 < n = omega arith in
      let same : map dealt_of (o ∷ os) ≡ own = sym (is ∙ many_dealt n (o ∷ os)) in
      subst (λ k. All (HasTold k own) (map (many_out n) (o ∷ os))) (len ∙ sym count)
      (told_all n own (o ∷ os) more new (λ x here. subst (λ l. Contains (all_put l) x) same here))

  blank_taken : (os : List (OwnerView T)) → flat_map (λ (p : PermitView T). p.taken) (map blank os) ≡ []
  blank_taken [] = refl
  blank_taken (o ∷ os) = blank_taken os

  pub are_blank : (os : List (OwnerView T)) (ps : List (PermitView T)) (m : ℕ) (own : List (Dealt T)) → m ≡ length os → own ≡ map dealt_of os → ps ≡ map blank os → AreBlank m own ps
  are_blank os ps m own count is e = (
    ap length e ∙ length-map os blank ∙ sym count,
    ap (map (λ (p : PermitView T). p.deque)) e ∙ map-map (λ (p : PermitView T). p.deque) blank os ∙ sym (map-map (λ (d : Dealt T). d.0) dealt_of os) ∙ ap deques_of (sym is),
    ap (flat_map (λ (p : PermitView T). p.known)) e ∙ flat_map-map (λ (p : PermitView T). p.known) blank os ∙ sym (flat_map-map (λ (d : Dealt T). d.1) dealt_of os) ∙ ap all_put (sym is),
    ap (flat_map (λ (p : PermitView T). p.taken)) e ∙ blank_taken os,
  )

  -- ---- items are dealt

  pub with_deques : (ds : List (Dealt T)) (at : ℕ) (x : T) → deques_of (with_item ds at x) ≡ deques_of ds
  with_deques [] at x = refl
  with_deques (d ∷ ds) zero x = refl
  with_deques (d ∷ ds) (suc at) x = ap (λ l. d.0 ∷ l) (with_deques ds at x)

  pub with_length : (ds : List (Dealt T)) (at : ℕ) (x : T) → length (with_item ds at x) ≡ length ds
  with_length ds at x = sym (length-map (with_item ds at x) (λ (d : Dealt T). d.0)) ∙ ap length (with_deques ds at x) ∙ length-map ds (λ (d : Dealt T). d.0)

  pub with_all : (ds : List (Dealt T)) (at : ℕ) (x : T) → at < length ds → IsPermutation (all_put ds ++ x ∷ []) (all_put (with_item ds at x))
  with_all [] at x lt = absurd (omega arith)
  with_all (d ∷ ds) zero x lt =
      subst (λ (p : List T × List T). IsPermutation p.0 p.1) (λ i. (sym (append_assoc d.1 (all_put ds) (x ∷ [])) i, sym (append_assoc d.1 (x ∷ []) (all_put ds)) i))
      (IsPermutation-append_right d.1 _ _ (IsPermutation-append_comm (all_put ds) (x ∷ [])))
  with_all (d ∷ ds) (suc at) x lt =
      subst (λ l. IsPermutation l (d.1 ++ all_put (with_item ds at x))) (sym (append_assoc d.1 (all_put ds) (x ∷ []))) (IsPermutation-append_right d.1 _ _ (with_all ds at x (omega arith)))

  pub with_more : (ys : List T) (ds ds' : List (Dealt T)) (at : ℕ) (x : T) → at < length ds → ds' ≡ with_item ds at x → IsPermutation ys (all_put ds) → IsPermutation (ys ++ x ∷ []) (all_put ds')
  with_more ys ds ds' at x lt new so_far =
      subst (λ l. IsPermutation (ys ++ x ∷ []) (all_put l)) (sym new)
      (IsPermutation-trans (ys ++ x ∷ []) (all_put ds ++ x ∷ []) (all_put (with_item ds at x)) (IsPermutation-append_left (x ∷ []) ys (all_put ds) so_far) (with_all ds at x lt))

  abbrev puts : List (Dealt T) → List (List T)
  puts ds = map (λ (d : Dealt T). d.1) ds

  with_here : (ds : List (Dealt T)) (at : ℕ) (x : T) → at < length ds → get_or (puts (with_item ds at x)) at [] ≡ get_or (puts ds) at [] ++ x ∷ []
  with_here [] at x lt = absurd (omega arith)
  with_here (d ∷ ds) zero x lt = refl
  with_here (d ∷ ds) (suc at) x lt = with_here ds at x (omega arith)

  with_else : (ds : List (Dealt T)) (at i : ℕ) (x : T) → (at ≡ i → ⊥) → get_or (puts (with_item ds at x)) i [] ≡ get_or (puts ds) i []
  with_else [] at i x n = refl
  with_else (d ∷ ds) zero zero x n = absurd (n refl)
  with_else (d ∷ ds) zero (suc i) x n = refl
  with_else (d ∷ ds) (suc at) zero x n = refl
  with_else (d ∷ ds) (suc at) (suc i) x n = with_else ds at i x (λ e. n (ap suc e))

  abbrev last_share : (count at k : ℕ) → T → List T
  last_share count at k x = if nat_eq (k % count) at then x ∷ [] else []

  share_both : (b : Bool) (y : T) (all so_far last : List T) → all ≡ so_far ++ last → (if b then y ∷ all else all) ≡ (if b then y ∷ so_far else so_far) ++ last
  share_both true y all so_far last e = ap (λ l. y ∷ l) e
  share_both false y all so_far last e = e

  share_more : (count at k n : ℕ) (xs : List T) (x : T) → n ≡ k + length xs → share_from count at k (xs ++ x ∷ []) ≡ share_from count at k xs ++ last_share count at n x
  share_more count at k n [] x e = let same : k ≡ n = omega arith in ap (λ m. last_share count at m x) same
  share_more count at k n (y ∷ ys) x e =
      share_both (nat_eq (k % count) at) y (share_from count at (k + 1) (ys ++ x ∷ [])) (share_from count at (k + 1) ys) (last_share count at n x) (share_more count at (k + 1) n ys x (omega arith))

  pub shares_none : (count : ℕ) (ds : List (Dealt T)) → All (λ d. d.1 ≡ []) ds → AreShares count [] (map (λ d. d.1) ds)
  shares_none count [] none at lt = refl
  shares_none count (d ∷ ds) none zero lt = All-head (λ (d : Dealt T). d.1 ≡ []) d ds none
  shares_none count (d ∷ ds) none (suc at) lt = shares_none (suc at) ds (All-tail (λ (d : Dealt T). d.1 ≡ []) d ds none) at (omega arith)

  pub none_put : (ds : List (Dealt T)) → All (λ d. d.1 ≡ []) ds → all_put ds ≡ []
  none_put [] none = refl
  none_put (d ∷ ds) none = λ i. All-head (λ (d : Dealt T). d.1 ≡ []) d ds none i ++ none_put ds (All-tail (λ (d : Dealt T). d.1 ≡ []) d ds none) i

  pub shares_more : (count n at : ℕ) (items : List T) (ds ds' : List (Dealt T)) (x : T) → AreShares count items (puts ds) → n ≡ length items → at ≡ n % count → at < length ds → ds' ≡ with_item ds at x
      → AreShares count (items ++ x ∷ []) (puts ds')
  shares_more count n at items ds ds' x so_far len is lt new i below =
      ap (λ l. get_or (puts l) i []) new ∙ go (cases_eq at i) ∙ sym (share_more count i 0 n items x (omega arith))
    where
      hit : at ≡ i → last_share count i n x ≡ x ∷ []
      hit e = let here : nat_eq (n % count) i ≡ true = eq-eqb (n % count) i (sym is ∙ e) in ap (λ (b : Bool). if b then x ∷ [] else []) here

      miss : (at ≡ i → ⊥) → last_share count i n x ≡ []
      miss other = let here : nat_eq (n % count) i ≡ false = ne_eqb (n % count) i (λ e. other (is ∙ e)) in ap (λ (b : Bool). if b then x ∷ [] else []) here

      go : (at ≡ i) ⊎ (at ≡ i → ⊥) → get_or (puts (with_item ds at x)) i [] ≡ share_from count i 0 items ++ last_share count i n x
      go (inl e) = subst (λ j. get_or (puts (with_item ds at x)) j [] ≡ get_or (puts ds) j [] ++ x ∷ []) e (with_here ds at x lt) ∙ (λ j. so_far i below j ++ sym (hit e) j)
      go (inr other) = with_else ds at i x other ∙ so_far i below ∙ sym (append-nil (share_from count i 0 items)) ∙ ap (λ l. share_from count i 0 items ++ l) (sym (miss other))

  -- ---- permits come back

  abbrev pub stolen_by : PermitView T → List T
  stolen_by p = p.taken

  abbrev pub deque_of : OwnerView T → DequeId
  deque_of o = o.deque

  abbrev pub from_deque : PermitView T → DequeId
  from_deque p = p.deque

  pub dealt_deques : (os : List (OwnerView T)) → deques_of (map dealt_of os) ≡ map deque_of os
  dealt_deques os = map-map (λ (d : Dealt T). d.0) dealt_of os

  pub back_dealt : (os : List (OwnerView T)) (rows : List (List T)) → map dealt_of (each_with one_back os rows) ≡ map dealt_of os
  back_dealt os rows = with-map one_back dealt_of (λ o row. refl) os rows

  -- all permits of a deque are told, and so many are out
  abbrev pub Counts : ℕ → OwnerView T → Type 0
  Counts n o = (o.out ≡ n) × (o.told ≡ Some o.put)

  pub back_counts : (n : ℕ) (os : List (OwnerView T)) (rows : List (List T)) → length rows ≡ length os → All (Counts n) os → All (Counts (n - 1)) (each_with one_back os rows)
  back_counts n [] rows e all = All-nil (Counts (n - 1))
  back_counts n (o ∷ os) [] e all = absurd (omega arith)
  back_counts n (o ∷ os) (row ∷ rows) e all =
      let is : Counts n o = All-head (Counts n) o os all in
      All-cons (Counts (n - 1)) (one_back o row) (each_with one_back os rows) (ap (λ m. m - 1) is.0, is.1) (back_counts n os rows (omega arith) (All-tail (Counts n) o os all))

  four : (a b c d : List T) → IsPermutation ((a ++ b) ++ (c ++ d)) ((a ++ c) ++ (b ++ d))
  four a b c d =
      let swap : IsPermutation (b ++ (c ++ d)) (c ++ (b ++ d)) =
      subst (λ (p : List T × List T). IsPermutation p.0 p.1) (λ i. (append_assoc b c d i, append_assoc c b d i)) (IsPermutation-append_left d _ _ (IsPermutation-append_comm b c)) in
      subst (λ (p : List T × List T). IsPermutation p.0 p.1) (λ i. (sym (append_assoc a b (c ++ d)) i, sym (append_assoc a c (b ++ d)) i)) (IsPermutation-append_right a _ _ swap)

  back_taken : (os : List (OwnerView T)) (rows : List (List T)) → length rows ≡ length os
      → IsPermutation (flat_map (λ o. o.taken) os ++ flat_map (λ r. r) rows) (flat_map (λ o. o.taken) (each_with one_back os rows))
  back_taken [] [] e = IsPermutation-refl []
  back_taken [] (row ∷ rows) e = absurd (omega arith)
  back_taken (o ∷ os) [] e = absurd (omega arith)
  back_taken (o ∷ os) (row ∷ rows) e =
      IsPermutation-trans _ _ _ (four o.taken (flat_map (λ (x : OwnerView T). x.taken) os) row (flat_map (λ r. r) rows)) (IsPermutation-append_right (o.taken ++ row) _ _ (back_taken os rows (omega arith)))

  -- a worker's permits are back
  abbrev pub rest_at : List (OwnerView T) → ℕ → RestView T
  rest_at os out = rest_of (map dealt_of os) out (flat_map (λ o. o.taken) os)

  same_many : (os : List (OwnerView T)) (ps : List (PermitView T)) → map from_deque ps ≡ map deque_of os → length (map stolen_by ps) ≡ length os
  same_many os ps e = length-map ps stolen_by ∙ sym (length-map ps from_deque) ∙ ap length e ∙ length-map os deque_of

  pub came_back : (os os' : List (OwnerView T)) (ps : List (PermitView T)) (out : ℕ) → map from_deque ps ≡ map deque_of os → os' ≡ each_with one_back os (map stolen_by ps)
      → CameBack (rest_at os out) (rest_at os' (out - 1)) (flat_map stolen_by ps)
  came_back os os' ps out same is = (
    flat_map (λ (o : OwnerView T). o.taken) os',
    (λ i. rest_of ((ap (map dealt_of) is ∙ back_dealt os (map stolen_by ps)) i) (out - 1) (flat_map (λ (o : OwnerView T). o.taken) os')),
    subst (λ l. IsPermutation (flat_map (λ (o : OwnerView T). o.taken) os ++ l) (flat_map (λ (o : OwnerView T). o.taken) os')) (flat_map-map (λ r. r) stolen_by ps)
        (subst (λ l. IsPermutation (flat_map (λ (o : OwnerView T). o.taken) os ++ flat_map (λ r. r) (map stolen_by ps)) (flat_map (λ (o : OwnerView T). o.taken) l)) (sym is) (back_taken os (map stolen_by ps) (same_many os ps same))),
  )

  pub counts_back : (n m : ℕ) (os os' : List (OwnerView T)) (ps : List (PermitView T)) → m ≡ n - 1 → map from_deque ps ≡ map deque_of os → os' ≡ each_with one_back os (map stolen_by ps)
      → All (Counts n) os → All (Counts m) os'
  counts_back n m os os' ps less same is all =
      subst (λ l. All (Counts m) l) (sym is) (subst (λ k. All (Counts k) (each_with one_back os (map stolen_by ps))) (sym less) (back_counts n os (map stolen_by ps) (same_many os ps same) all))

  -- one hand more is taken apart
  pub apart_more : (all owners owners' rows rows' hand own more rest : List T) → IsPermutation all ((owners ++ rows) ++ (hand ++ rest)) → hand ≡ own ++ more → owners' ≡ owners ++ own → rows' ≡ rows ++ more
      → IsPermutation all ((owners' ++ rows') ++ rest)
  apart_more all owners owners' rows rows' hand own more rest same h o r =
      let here : IsPermutation ((owners ++ rows) ++ hand) (owners' ++ rows') =
      subst (λ (p : List T × List T). IsPermutation p.0 p.1) (λ i. ((owners ++ rows) ++ sym h i, sym o i ++ sym r i)) (four owners rows own more) in
      IsPermutation-trans _ _ _ (subst (IsPermutation all) (sym (append_assoc (owners ++ rows) hand rest)) same) (IsPermutation-append_left rest _ _ here)

  -- one worker's permits more are back
  pub back_more : (all taken taken' stolen rest : List T) → IsPermutation all (taken ++ (stolen ++ rest)) → IsPermutation (taken ++ stolen) taken' → IsPermutation all (taken' ++ rest)
  back_more all taken taken' stolen rest same more =
      IsPermutation-trans _ _ _ (subst (IsPermutation all) (sym (append_assoc taken stolen rest)) same) (IsPermutation-append_left rest _ _ more)

  -- ---- what is left

  -- the deques below a place were found empty
  abbrev pub Emptied : ℕ → List (OwnerView T) → Type 0
  Emptied n os = (i : ℕ) (d : OwnerView T) → i < n → i < length os → IsPermutation (get_or os i d).put (get_or os i d).taken

  pub emptied_all : (n : ℕ) (os : List (OwnerView T)) → length os ≤ n → Emptied n os → IsPermutation (all_put (map dealt_of os)) (flat_map (λ o. o.taken) os)
  emptied_all n [] le all = IsPermutation-refl []
  emptied_all zero (o ∷ os) le all = absurd (omega arith)
  emptied_all (suc n) (o ∷ os) le all =
      let here : IsPermutation o.put o.taken = all 0 o (omega arith) (omega arith) in
      IsPermutation-trans _ _ _ (IsPermutation-append_left (all_put (map dealt_of os)) _ _ here)
      (IsPermutation-append_right o.taken _ _ (emptied_all n os (omega arith) (λ i d lt below. all (suc i) d (omega arith) (omega arith))))

  pub emptied_more : (n : ℕ) (os : List (OwnerView T)) (e : OwnerView T) → Emptied n os → e ≡ get_or os n e → IsPermutation e.put e.taken → Emptied (n + 1) os
  emptied_more n os e so_far is empty i d lt below = go (cases_eq i n)
    where
      go : (i ≡ n) ⊎ (i ≡ n → ⊥) → IsPermutation (get_or os i d).put (get_or os i d).taken
      go (inl same) =
          let at : get_or os i d ≡ e = ap (λ k. get_or os k d) same ∙ get_or_default os n d e (subst (λ k. k < length os) same below) ∙ sym is in
          subst (λ (o : OwnerView T). IsPermutation o.put o.taken) (sym at) empty
      go (inr other) = so_far i d (omega arith) below

  pub took_last : (os os' : List (OwnerView T)) (out i : ℕ) (o o' : OwnerView T) (x : T) → out ≡ 0 → o ≡ get_or os i o → i < length os → o.told ≡ Some o.put → Popped o o' x → os' ≡ set os i o'
      → TookLast (rest_at os out) (rest_at os' out) x
  took_last os os' out i o o' x none is lt told (new, among) set_is = (
    flat_map (λ (v : OwnerView T). v.taken) os',
    (λ j. rest_of ((ap (map dealt_of) set_is ∙ map-set_same dealt_of os i o' o (ap dealt_of new ∙ ap dealt_of is)) j) (none j) (flat_map (λ (v : OwnerView T). v.taken) os')),
    subst (λ l. IsPermutation (flat_map (λ (v : OwnerView T). v.taken) os ++ x ∷ []) (flat_map (λ (v : OwnerView T). v.taken) l)) (sym set_is)
        (flat_more (λ (v : OwnerView T). v.taken) os i o o' (x ∷ []) is lt (ap (λ (v : OwnerView T). v.taken) new)),
    put_has os i o is lt x (among o.put told),
  )

  -- ---- an owner's deque

  pub put_is : (os : List (OwnerView T)) (at : ℕ) (o o' : OwnerView T) (x : T) → o ≡ get_or os at o → at < length os → dealt_of o' ≡ (o.deque, o.put ++ x ∷ []) → map dealt_of (set os at o') ≡ with_item (map dealt_of os) at x
  put_is [] at o o' x is lt e = absurd (omega arith)
  put_is (y ∷ os) zero o o' x is lt e = ap (λ d. d ∷ map dealt_of os) (e ∙ (λ i. ((is i).deque, (is i).put ++ x ∷ [])))
  put_is (y ∷ os) (suc at) o o' x is lt e = ap (λ l. dealt_of y ∷ l) (put_is os at o o' x is (omega arith) e)

  -- ---- a hand's own facts

  abbrev pub known_in : List (PermitView T) → List T
  known_in ps = flat_map (λ p. p.known) ps

  pub holds_still : (place place' n n' : ℕ) (o o' : OwnerView T) (ps ps' : List (PermitView T)) → place' ≡ place → n' ≡ n → o' ≡ o → known_in ps' ≡ known_in ps → CanHold place n o ps → CanHold place' n' o' ps'
  holds_still place place' n n' o o' ps ps' p e w k (low, out, told, known) = (
    subst (λ m. place' < m) (sym e) (subst (λ m. m < n) (sym p) low),
    ap (λ (v : OwnerView T). v.out) w ∙ out ∙ sym e,
    ap (λ (v : OwnerView T). v.told) w ∙ told ∙ ap (λ (v : OwnerView T). Some v.put) (sym w),
    λ x here. subst (λ l. Contains l x) (sym k) (known x (subst (λ (v : OwnerView T). Contains v.put x) w here)),
  )

  pub count_out_of : (n m : ℕ) (all : List (Dealt T)) (o : OwnerView T) (ps : List (PermitView T)) (h : HandView T) → hand_at o ps ≡ h → h.deques ≡ deques_of all → length all ≡ n → m ≡ length ps → o.out ≡ m → o.out ≡ n
  count_out_of n m all o ps h view same count many out =
      out ∙ many ∙ sym (length-map ps from_deque) ∙ ap (λ (v : HandView T). length v.deques) view ∙ ap length same ∙ length-map all (λ (d : Dealt T). d.0) ∙ count

module _ {A B : Type 0} where
  pub map_push : (f : A → B) (xs xs' : List A) (x : A) → xs' ≡ xs ++ x ∷ [] → map f xs' ≡ map f xs ++ f x ∷ []
  map_push f xs xs' x e = ap (map f) e ∙ map-append f xs (x ∷ [])

  pub flat_push : (f : A → List B) (xs xs' : List A) (x : A) → xs' ≡ xs ++ x ∷ [] → flat_map f xs' ≡ flat_map f xs ++ f x
  flat_push f xs xs' x e = ap (flat_map f) e ∙ flat_map-append f xs (x ∷ []) ∙ ap (λ l. flat_map f xs ++ l) (append-nil (f x))

  -- what was done so far and what the rest gives
  pub map_turn : (f : A → B) {C : Type 0} (g : C → B) (xs xs' : List A) (x : A) (rest left : List C) (y : C) (all : List B) → xs' ≡ xs ++ x ∷ [] → rest ≡ y ∷ left → f x ≡ g y → map f xs ++ map g rest ≡ all → map f xs' ++ map g left ≡ all
  map_turn f g xs xs' x rest left y all more e same so_far =
      ap (λ l. l ++ map g left) (map_push f xs xs' x more) ∙ append_assoc (map f xs) (f x ∷ []) (map g left) ∙ ap (λ z. map f xs ++ (z ∷ map g left)) same ∙ ap (λ l. map f xs ++ map g l) (sym e) ∙ so_far
