-- The members of a set in rising order, one after the other.
use Rattle.process_api.proofs.Basics.{◌≡◌, ◌≢◌, ℕ, zero, suc, ◌+◌, ◌-◌, ◌<◌, ◌≤◌, refl, sym, ap, ◌∙◌, subst, Bool, true, false, cond, not, ◌&&◌, nat_le, List, [], ◌∷◌, ◌++◌, arith, ⊎_elim, append-nil, nat_cmp, length, Option, Some, cases_eq, filter, nat_cmp_total, nat_tests, members, most_processes, in_order, numbers_to, Processes, up_to, gone}
use Rattle.process_api.proofs.{Contains.{contains-remove_is, contains-up_to}, Numbering.{filter-suc, filter-none, filter-same}, Told.{told_in_range, members-none, members-remove}}
use Rattle.std.specs.FinSet as set
use Rattle.std.specs.Iterator.{YieldsFirst, MakesProgress, item_count}
use borrow.Author.Tests.{eq-eqb, ne_eqb}

-- the first that passes, and then those that pass besides it
module _ (p others : ℕ → Bool) (q : ℕ) (some : 1 ≤ q) (passes : p q ≡ true) (none : (x : ℕ) → 1 ≤ x → x < q → p x ≡ false) (without : others q ≡ false) (alike : (x : ℕ) → x ≢ q → others x ≡ p x) where
  last_is : (n : ℕ) → q ≡ suc n → filter p (numbers_to n) ++ cond (p (suc n)) (suc n ∷ []) [] ≡ q ∷ (filter others (numbers_to n) ++ cond (others (suc n)) (suc n ∷ []) [])
  last_is n e =
      (λ i. filter-none p n (λ x low high. none x low (omega (arith, high, e))) i ++ cond ((ap p (sym e) ∙ passes) i) (suc n ∷ []) [])
      ∙ sym (λ i. e i ∷ (filter-none others n (λ x low high. alike x (λ s. omega (arith, high, s, e)) ∙ none x low (omega (arith, high, e))) i ++ cond ((ap others (sym e) ∙ without) i) (suc n ∷ []) []))

  first_passes : (n : ℕ) → q ≤ n → filter p (numbers_to n) ≡ q ∷ filter others (numbers_to n)
  first_passes zero within = absurd (omega (arith, within, some))
  first_passes (suc n) within =
      filter-suc p n
      ∙ (⊎_elim (last_is n) (λ (apart : q ≢ suc n) i. first_passes n (omega (arith, within, apart)) i ++ cond (sym (alike (suc n) (λ s. apart (sym s))) i) (suc n ∷ []) []) (cases_eq q (suc n))
      ∙ ap (λ zs. q ∷ zs) (sym (filter-suc others n)))

pub in_order-empty : (s : Processes) → ((x : ℕ) → set.contains s x ≡ false) → in_order s ≡ []
unfolding in_order
in_order-empty s none = filter-none (set.contains s) most_processes (λ x low high. none x)

pub in_order-first : (s : Processes) (q : ℕ) → 1 ≤ q → q ≤ most_processes → set.contains s q ≡ true → ((x : ℕ) → 1 ≤ x → x < q → set.contains s x ≡ false) → in_order s ≡ q ∷ in_order (set.remove s q)
unfolding in_order
in_order-first s q low high there none = first_passes (set.contains s) (set.contains (set.remove s q)) q low there none without alike most_processes high
  where
    without : set.contains (set.remove s q) q ≡ false
    without = contains-remove_is s q q ∙ ap (λ b. not b && set.contains s q) (eq-eqb q q refl)

    alike : (x : ℕ) → x ≢ q → set.contains (set.remove s q) x ≡ set.contains s x
    alike x apart = contains-remove_is s q x ∙ ap (λ b. not b && set.contains s x) (ne_eqb x q apart)

-- the first that is told, and then those that are told besides it
pub in_order-told : (told new : ℕ → Bool) (place : ℕ) → place < most_processes → told place ≡ true → ((i : ℕ) → i < place → told i ≡ false)
    → new place ≡ false → ((i : ℕ) → i < most_processes → i ≢ place → new i ≡ told i) → in_order (members most_processes told) ≡ (place + 1) ∷ in_order (members most_processes new)
in_order-told told new place within here none gone others =
    in_order-first (members most_processes told) (place + 1) (omega arith) (omega (arith, within))
    (told_in_range told most_processes (place + 1) (omega arith) (omega (arith, within)) ∙ (ap told back ∙ here))
    (λ x low high. told_in_range told most_processes x low (omega (arith, high, within)) ∙ none (x - 1) (omega (arith, low, high)))
    ∙ ap (λ s. (place + 1) ∷ in_order s)
    (sym (members-remove most_processes told new (place + 1) (omega arith) (omega (arith, within)) (λ i low apart. others i low (λ e. apart (e ∙ sym back))) (ap new back ∙ gone)))
  where
    back : place + 1 - 1 ≡ place
    back = omega arith

pub in_order-none : (told : ℕ → Bool) → ((i : ℕ) → i < most_processes → told i ≡ false) → in_order (members most_processes told) ≡ []
in_order-none told none = ap in_order (members-none most_processes told none) ∙ in_order-empty set.empty (set.contains-empty nat_cmp)

pub yielded : (r : Option ℕ) (old new : List ℕ) (n : ℕ) → r ≡ Some n → old ≡ n ∷ new → YieldsFirst (λ rest. rest) old r new
yielded r old new n e is = subst (λ r. YieldsFirst (λ rest. rest) old r new) (sym e) is

pub progressed : (r : Option ℕ) (old new : List ℕ) (n : ℕ) → r ≡ Some n → old ≡ n ∷ new → MakesProgress {S = List ℕ} {A = ℕ} (λ s. Unit {0}) (item_count (λ rest. rest)) old r new
progressed r old new n e is =
    subst (λ r. MakesProgress {S = List ℕ} {A = ℕ} (λ s. Unit {0}) (item_count (λ rest. rest)) old r new) (sym e)
    (record { on = λ h. (tt, tt, omega (arith, ap length is)); keeps = tt; rests = λ h. tt })

-- where all members are at most n, those of 1 to n are all
filter_to : (p : ℕ → Bool) (n m : ℕ) → n ≤ m → ((x : ℕ) → n < x → p x ≡ false) → filter p (numbers_to m) ≡ filter p (numbers_to n)
filter_to p n zero within none = ap (λ k. filter p (numbers_to k)) (let e : 0 ≡ n = omega (arith, within) in e)
filter_to p n (suc m) within none =
    ⊎_elim (λ e. ap (λ k. filter p (numbers_to k)) (sym e))
    (λ apart. filter-suc p m ∙ (ap (λ b. filter p (numbers_to m) ++ cond b (suc m ∷ []) []) (none (suc m) (omega (arith, within, apart))) ∙ (append-nil (filter p (numbers_to m)) ∙ filter_to p n m (omega (arith, within, apart)) none)))
    (cases_eq n (suc m))

pub in_order-to : (s : Processes) (n : ℕ) → n ≤ most_processes → ((x : ℕ) → n < x → set.contains s x ≡ false) → in_order s ≡ filter (set.contains s) (numbers_to n)
unfolding in_order
in_order-to s n within none = filter_to (set.contains s) n most_processes within none

-- those of 1 to n that are in one set and not in another
pub gone-members : (n : ℕ) (from to : Processes) → n ≤ most_processes → in_order (up_to n (set.difference from to)) ≡ gone n from to
gone-members n from to few =
    in_order-to (up_to n (set.difference from to)) n few (λ q h. grind (cut q, h, arith, nat_tests))
    ∙ filter-same _ _ n (λ q low h. grind (cut q, h, arith, nat_tests))
  where
    cut : (q : ℕ) → set.contains (up_to n (set.difference from to)) q ≡ ((set.contains from q && not (set.contains to q)) && nat_le q n)
    cut q = contains-up_to n (set.difference from to) q ∙ ap (λ b. b && nat_le q n) (set.contains-difference nat_cmp_total from to q)
