-- Lists that have process 1 first.
use Rattle.windows.proofs.Words.{◌≡◌, ◌≢◌, ℕ, zero, suc, ◌+◌, ◌-◌, ◌<◌, ◌≤◌, inl, inr, refl, sym, ap, ◌∙◌, subst, List, [], ◌∷◌, Some, length, map, slice_get, get_or, option_map, arith, cond, nat_eq, not, filter, All, AllByRecursion, eq-eqb, ne_eqb, cases_eq, cases_lt, get_or_past, length-map, length-append, length-filter_both, slice_get-map, slice_get-get_or, slice_get_cases, slice_get_within, get_or_from_slice_get, EntryRecord, Letter, IsIn, Pair, pairs_of, list_of, joined, entries, not_None, same_Some, in_append, in_left, in_right, all_of, AreDisjoint, event_of, of_process, delivered, ◌++◌, append-nil, nil_from_length, key_cmp, Key, StepInput, Has, Berth, pairs_other}
use Rattle.windows.proofs.Ranked.{contains_in, in_contains}
use Rattle.std.specs.FinMap as finmap

pub no_event : (k : Key) (y : StepInput) → Has finmap.empty k y → ⊥
no_event k y i = not_None y (sym (finmap.get-empty key_cmp k) ∙ i)

-- ---- what stands at a place

pub there : {X : Type 0} (xs : List X) (i : ℕ) → i < length xs → (x : X) × (slice_get xs i ≡ Some x)
there xs i h = elim (slice_get_cases xs i).1 [ inl x ↦ (x.0, x.2) | inr past ↦ absurd (omega (arith, h, past.0)) ]

pub there_map : {X Y : Type 0} (f : X → Y) (xs : List X) (i : ℕ) (x : X) → slice_get xs i ≡ Some x → slice_get (map f xs) i ≡ Some (f x)
there_map f xs i x h = slice_get-map f xs i ∙ ap (option_map f) h

pub from_map : {X Y : Type 0} (f : X → Y) (xs : List X) (i : ℕ) (y : Y) → slice_get (map f xs) i ≡ Some y → (x : X) × (slice_get xs i ≡ Some x) × (f x ≡ y)
from_map f xs i y h =
    let x = there xs i (subst (λ n. i < n) (length-map xs f) (slice_get_within (map f xs) i y h)) in
    (x.0, x.1, same_Some (f x.0) y (sym (there_map f xs i x.0 x.1) ∙ h))

-- where an element stands
pub in_place : {X : Type 0} (xs : List X) (x : X) → IsIn x xs → (i : ℕ) × (slice_get xs i ≡ Some x)
in_place xs x i = let c = in_contains xs x i in (c.0, slice_get-get_or xs c.0 x c.1 ∙ ap Some c.2)

pub place_in : {X : Type 0} (xs : List X) (i : ℕ) (x : X) → slice_get xs i ≡ Some x → IsIn x xs
place_in xs i x at = contains_in xs x (i, slice_get_within xs i x at, get_or_from_slice_get xs i x x at)

-- process 1 is at place 0
pub at_map : {X Y : Type 0} (f : X → Y) (xs : List X) (none : Y) (i : ℕ) (x : X) → slice_get xs i ≡ Some x → of_process (suc i) (map f xs) none ≡ f x
at_map f xs none i x h = get_or_from_slice_get (map f xs) i (f x) none (there_map f xs i x h)

pub list_at : (lists : List (List Letter)) (i : ℕ) (l : List Letter) → slice_get lists i ≡ Some l → list_of lists (suc i) ≡ l
list_at lists i l at = get_or_from_slice_get lists (suc i - 1) l [] (subst (λ n. slice_get lists n ≡ Some l) (omega arith) at)

-- what holds at each place holds of each process
pub by_place : (n : ℕ) (P : ℕ → Type 0) → ((i : ℕ) → i < n → P (suc i)) → (p : ℕ) → (1 ≤ p) × (p ≤ n) → P p
by_place n P each zero own = let low = own.0 in absurd (omega arith)
by_place n P each (suc i) own = each i (omega (arith, own.1))

pub at_nobody : {X : Type 0} (p : ℕ) (xs : List X) (none : X) → ¬ ((1 ≤ p) × (p ≤ length xs)) → of_process p xs none ≡ none
at_nobody zero xs none h = refl
at_nobody (suc q) xs none h = get_or_past xs q none (elim (cases_lt q (length xs)) [ inl below ↦ absurd (h (omega arith, omega (arith, below))) | inr high ↦ high ])

-- what holds of each value, and of what is given for others, holds of each process
pub each_process : {X Y : Type 0} (f : X → Y) (none : Y) (P : Y → Type 0) (xs : List X) → ((i : ℕ) (x : X) → slice_get xs i ≡ Some x → P (f x)) → P none → (p : ℕ) → P (of_process p (map f xs) none)
each_process f none P xs each other zero = other
each_process f none P [] each other (suc q) = other
each_process f none P (x ∷ xs) each other (suc zero) = each 0 x refl
each_process f none P (x ∷ xs) each other (suc (suc q)) = each_process f none P xs (λ i y at. each (suc i) y at) other (suc q)

module _ {M : Type 0} where
  pub at_delivered : (bs : List (Berth M)) (ls : List (List Letter)) (i : ℕ) (b : Berth M) (l : List Letter) → slice_get bs i ≡ Some b → slice_get ls i ≡ Some l → slice_get (delivered bs ls) i ≡ Some (b.seat, joined b.pending (map event_of l), [])
  at_delivered [] ls i b l at here = absurd (not_None b at)
  at_delivered (c ∷ bs) [] i b l at here = absurd (not_None l here)
  at_delivered (c ∷ bs) (k ∷ ls) zero b l at here = λ i. Some ((same_Some c b at i).seat, joined (same_Some c b at i).pending (map event_of (same_Some k l here i)), [])
  at_delivered (c ∷ bs) (k ∷ ls) (suc i) b l at here = at_delivered bs ls i b l at here

  pub length-delivered : (bs : List (Berth M)) (ls : List (List Letter)) → length ls ≡ length bs → length (delivered bs ls) ≡ length bs
  length-delivered [] ls e = refl
  length-delivered (b ∷ bs) [] e = absurd (omega (arith, e))
  length-delivered (b ∷ bs) (l ∷ ls) e = ap suc (length-delivered bs ls (omega (arith, e)))

pub all_at : {X : Type 0} (P : X → Type 0) (xs : List X) → ((i : ℕ) (x : X) → slice_get xs i ≡ Some x → P x) → All P xs
all_at P xs each i d inside = each i (get_or xs i d) (slice_get-get_or xs i d inside)

pub all_place : {X : Type 0} (P : X → Type 0) (xs : List X) → All P xs → (i : ℕ) (x : X) → slice_get xs i ≡ Some x → P x
all_place P xs each i x at = subst P (get_or_from_slice_get xs i x x at) (each i x (slice_get_within xs i x at))

-- ---- parts whose entries are received by one process each

module _ where
  abbrev AreReceived : ℕ → List EntryRecord → Type 0
  AreReceived p part = (e : EntryRecord) → IsIn e part → e.key.receiver ≡ p

  abbrev AreReceivedFrom : ℕ → List (List EntryRecord) → Type 0
  AreReceivedFrom k parts = (i : ℕ) (part : List EntryRecord) → slice_get parts i ≡ Some part → AreReceived (k + i) part

  later : (k : ℕ) (part : List EntryRecord) (parts : List (List EntryRecord)) → AreReceivedFrom k (part ∷ parts) → AreReceivedFrom (suc k) parts
  later k part parts all i q h = let e : k + suc i ≡ suc k + i = omega arith in subst (λ n. AreReceived n q) e (all (suc i) q h)

  above : (k : ℕ) (parts : List (List EntryRecord)) → AreReceivedFrom k parts → (e : EntryRecord) → IsIn e (all_of parts) → k ≤ e.key.receiver
  above k [] all e i = absurd i
  above k (part ∷ parts) all e i = elim (in_append e part (all_of parts) i) [
    | inl j ↦ omega (arith, all 0 part refl e j)
    | inr j ↦ omega (arith, above (suc k) parts (later k part parts all) e j)
  ]

  by_each : {X : Type 0} (P : X → Type 0) (xs : List X) → ((x : X) → IsIn x xs → P x) → AllByRecursion P xs
  by_each P [] each = tt
  by_each P (x ∷ xs) each = (each x (inl refl), by_each P xs (λ z i. each z (inr i)))

  pub disjoint_from : (k : ℕ) (parts : List (List EntryRecord)) → AreReceivedFrom k parts → AreDisjoint parts
  disjoint_from k [] all = tt
  disjoint_from k (part ∷ parts) all =
      (by_each _ part (λ x i. by_each _ (all_of parts) (λ y. differ x y i)), disjoint_from (suc k) parts (later k part parts all))
    where
      differ : (x y : EntryRecord) → IsIn x part → IsIn y (all_of parts) → x.key ≢ y.key
      differ x y i j same =
          let low : x.key.receiver ≡ k + 0 = all 0 part refl x i in
          let high : suc k ≤ y.key.receiver = above (suc k) parts (later k part parts all) y j in
          let one : x.key.receiver ≡ y.key.receiver = ap (λ key. key.receiver) same in
          omega (arith, low, high, one)

-- ---- how many entries the parts have

module _ where
  abbrev others : ℕ → List Pair → List Pair
  others p list = filter (λ s. not (nat_eq s.0.key.receiver p)) list

  still : (p q : ℕ) → q ≢ p → (list : List Pair) → pairs_of q (others p list) ≡ pairs_of q list
  still p q n [] = refl
  still p q n (s ∷ list) = elim (cases_eq s.0.key.receiver p) [
    | inl is ↦
        ap (λ b. pairs_of q (cond (not b) (s ∷ others p list) (others p list))) (eq-eqb _ _ is)
        ∙ (still p q n list ∙ sym (pairs_other s list q (λ e. n (sym e ∙ is))))
    | inr other ↦
        ap (λ b. pairs_of q (cond (not b) (s ∷ others p list) (others p list))) (ne_eqb _ _ other)
        ∙ ap (λ l. cond (nat_eq s.0.key.receiver q) (s ∷ l) l) (still p q n list)
  ]

  -- parts that are of different processes have no more entries together than the list
  pub no_more : (k : ℕ) (parts : List (List EntryRecord)) (list : List Pair) → ((i : ℕ) (part : List EntryRecord) → slice_get parts i ≡ Some part → part ≡ entries (pairs_of (k + i) list)) → length (all_of parts) ≤ length list
  no_more k [] list each = omega arith
  no_more k (part ∷ parts) list each =
      let first : length part ≡ length (pairs_of k list) = ap length (each 0 part refl) ∙ length-map (pairs_of (k + 0) list) (λ s. s.0) ∙ ap (λ n. length (pairs_of n list)) (omega arith) in
      let rest : length (all_of parts) ≤ length (others k list) = no_more (suc k) parts (others k list) later_parts in
      omega (arith, first, rest, length-filter_both (λ (s : Pair). nat_eq s.0.key.receiver k) (λ (s : Pair). not (nat_eq s.0.key.receiver k)) (λ _. refl) list, length-append part (all_of parts))
    where
      later_parts : (i : ℕ) (q : List EntryRecord) → slice_get parts i ≡ Some q → q ≡ entries (pairs_of (suc k + i) (others k list))
      later_parts i q h =
          let e : k + suc i ≡ suc k + i = omega arith in
          let n : suc k + i ≢ k = λ z. omega (arith, z) in
          each (suc i) q h ∙ ap (λ m. entries (pairs_of m list)) e ∙ ap entries (sym (still k (suc k + i) n list))

-- ---- entries of all parts

pub in_all : (parts : List (List EntryRecord)) (e : EntryRecord) → IsIn e (all_of parts) → (i : ℕ) × (part : List EntryRecord) × (slice_get parts i ≡ Some part) × IsIn e part
in_all [] e i = absurd i
in_all (part ∷ parts) e i = elim (in_append e part (all_of parts) i) [ inl j ↦ (0, part, refl, j) | inr j ↦ (let r = in_all parts e j in (suc r.0, r.1, r.2, r.3)) ]

pub all_in : (parts : List (List EntryRecord)) (i : ℕ) (part : List EntryRecord) → slice_get parts i ≡ Some part → (e : EntryRecord) → IsIn e part → IsIn e (all_of parts)
all_in [] i part at e j = absurd (not_None part at)
all_in (p ∷ parts) zero part at e j = in_left e p (all_of parts) (subst (IsIn e) (sym (same_Some p part at)) j)
all_in (p ∷ parts) (suc i) part at e j = in_right e p (all_of parts) (all_in parts i part at e j)

pub part_few : (parts : List (List EntryRecord)) (i : ℕ) (part : List EntryRecord) → slice_get parts i ≡ Some part → length part ≤ length (all_of parts)
part_few [] i part at = absurd (not_None part at)
part_few (p ∷ parts) zero part at = omega (arith, ap length (same_Some p part at), length-append p (all_of parts))
part_few (p ∷ parts) (suc i) part at = omega (arith, part_few parts i part at, length-append p (all_of parts))

-- ---- what a loop over a list begins with and comes to: what was made so far and what the rest gives is what all give

module _ {A B X : Type 0} (f : A → X) (g : B → X) (made : List A) (rest : List B) where
  pub opens : (xs : List B) → made ≡ [] → rest ≡ xs → map f made ++ map g rest ≡ map g xs
  opens xs none all = λ i. map f (none i) ++ map g (all i)

  pub ends : (all : List X) → length rest ≡ 0 → map f made ++ map g rest ≡ all → map f made ≡ all
  ends all none is = sym (append-nil (map f made)) ∙ (ap (λ l. map f made ++ map g l) (sym (nil_from_length rest none)) ∙ is)
