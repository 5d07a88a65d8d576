-- Entries that are moved from parts, tick by tick.
use Rattle.trace_merge.proofs.Words.{◌≡◌, ◌<◌, ◌≤◌, ◌-◌, All, ℕ, suc, sym, ap, ◌∙◌, subst, List, [], ◌∷◌, ◌++◌, map, length, get_or, append_assoc, min, arith, None, Some, MatchOption, IsPermutation, unwrap_or, IsPermutation-trans, EntryRecord, Lane, all_of, ◌^◌, zero, set, Option, Vec, Global, append-nil, IsPermutation-append_left, IsPermutation-append_right, IsPermutation-append_comm, Entry}
use Rattle.trace_merge.proofs.Distinct.{Ahead}

abbrev Part : Type 0
Part = List EntryRecord

abbrev pub items_of : Vec Entry Global → Part
items_of part = part.items

abbrev pub rest_of : Lane → Part
rest_of lane = lane.rest.items

-- one part more
pub all_of-more : {X : Type 0} (f : X → Part) (xs : List X) (x : X) → all_of (map f (xs ++ x ∷ [])) ≡ all_of (map f xs) ++ f x
all_of-more f [] x = append-nil (f x)
all_of-more f (y ∷ ys) x = ap (λ es. f y ++ es) (all_of-more f ys x) ∙ sym (append_assoc (f y) (all_of (map f ys)) (f x))

-- how many ticks there still are from this one
abbrev pub still : Option ℕ → ℕ
still None = 0
still (Some tick) = 2 ^ 32 - tick

past : (xs ys zs : Part) → IsPermutation (xs ++ (ys ++ zs)) (ys ++ (xs ++ zs))
past xs ys zs =
    subst (IsPermutation (xs ++ (ys ++ zs))) (append_assoc ys xs zs)
    (subst (λ l. IsPermutation l ((ys ++ xs) ++ zs)) (append_assoc xs ys zs) (IsPermutation-append_left zs _ _ (IsPermutation-append_comm xs ys)))

-- entries were moved from one part to the end of a list
pub one_moved : {X : Type 0} (f : X → Part) (from to : Part) (ps : List X) (i : ℕ) (d q : X) → i < length ps → IsPermutation (from ++ f (get_or ps i d)) (to ++ f q) → IsPermutation (from ++ all_of (map f ps)) (to ++ all_of (map f (set ps i q)))
one_moved f from to [] i d q low moved = absurd (omega (arith, low))
one_moved f from to (p ∷ ps) zero d q low moved =
    let others = all_of (map f ps) in
    subst (IsPermutation (from ++ (f p ++ others))) (append_assoc to (f q) others)
    (subst (λ l. IsPermutation l ((to ++ f q) ++ others)) (append_assoc from (f p) others) (IsPermutation-append_left others _ _ moved))
one_moved f from to (p ∷ ps) (suc i) d q low moved =
    let there = one_moved f from to ps i d q (omega (arith, low)) moved in
    IsPermutation-trans _ _ _ (past from (f p) _) (IsPermutation-trans _ _ _ (IsPermutation-append_right (f p) _ _ there) (past (f p) to _))

-- the least tick of two that come later
pub later_least : (tick : ℕ) (P : Type 0) (least : Option ℕ) (next : ℕ) → MatchOption least P (λ t. tick < t) → tick < next → tick < min (unwrap_or least next) next
later_least tick P None next _ h = omega (arith, h)
later_least tick P (Some t) next l h = omega (arith, l, h)

-- where a part has none left, the tick is that of the parts before it
pub later_same : (tick : ℕ) (es more : Part) (least : Option ℕ) → MatchOption least (es ≡ []) (λ t. tick < t) → more ≡ [] → MatchOption least (es ++ more ≡ []) (λ t. tick < t)
later_same tick es more None none h = ap (λ xs. xs ++ more) none ∙ h
later_same tick es more (Some t) l h = l

-- what was taken up to a tick is earlier than what comes later
pub taken_ahead : (tick : ℕ) (xs ys : Part) → All (λ e. e.key.tick ≤ tick) xs → All (λ e. tick < e.key.tick) ys → Ahead xs ys
taken_ahead tick xs ys early late k d low i f within = omega (arith, early k d low, late i f within)

-- and earlier than the next tick
pub taken_before : (tick : ℕ) (P : Type 0) (next : Option ℕ) (xs : Part) → MatchOption next P (λ t. tick < t) → All (λ e. e.key.tick ≤ tick) xs → MatchOption next P (λ t. All (λ e. e.key.tick < t) xs)
taken_before tick P None xs none early = none
taken_before tick P (Some t) xs h early = λ k d low. omega (arith, h, early k d low)
