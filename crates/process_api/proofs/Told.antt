-- The set of those that a test tells: process q is told at place q - 1.
use Rattle.process_api.proofs.Basics.{◌≡◌, ◌≢◌, ℕ, zero, suc, ◌+◌, ◌-◌, ◌<◌, ◌≤◌, ap, ◌∙◌, Bool, true, false, cond, not, ◌&&◌, ◌||◌, nat_lt, nat_le, arith, nat_cmp, nat_cmp_total, nat_tests, Processes, up_to, members}
use Rattle.process_api.proofs.Contains.{contains-insert_is, contains-remove_is, contains-up_to, same_members}
use Rattle.std.specs.FinSet as set

-- q is among 1 to n, and told
abbrev pub has : ℕ → (ℕ → Bool) → ℕ → Bool
has n told q = (nat_lt 0 q && nat_le q n) && told (q - 1)

module _ (told : ℕ → Bool) where
  none_of_0 : (q : ℕ) → false ≡ has 0 told q
  none_of_0 q = grind (arith, nat_tests)

  one_more : (n q : ℕ) (s : Processes) → set.contains s q ≡ has n told q → set.contains (cond (told n) (set.insert s (suc n)) s) q ≡ has (suc n) told q
  one_more n q s h = grind (h, contains-insert_is s (suc n) q, arith, nat_tests)

  pub contains-members : (n q : ℕ) → set.contains (members n told) q ≡ has n told q
  unfolding members
  contains-members zero q = set.contains-empty nat_cmp q ∙ none_of_0 q
  contains-members (suc n) q = one_more n q (members n told) (contains-members n q)

  -- a process of the right range is told at its place
  pub told_in_range : (n p : ℕ) → 1 ≤ p → p ≤ n → set.contains (members n told) p ≡ told (p - 1)
  told_in_range n p low high = grind (contains-members n p, low, high, arith, nat_tests)

-- a set that has just those that a test tells
told_set : (n : ℕ) (new : ℕ → Bool) (s : Processes) → ((q : ℕ) → has n new q ≡ set.contains s q) → members n new ≡ s
told_set n new s same = same_members _ _ (λ q. contains-members new n q ∙ same q)

pub members-none : (n : ℕ) (told : ℕ → Bool) → ((i : ℕ) → i < n → told i ≡ false) → members n told ≡ set.empty
members-none n told none = told_set n told set.empty (λ q. grind (none (q - 1), set.contains-empty nat_cmp q, arith, nat_tests))

module _ (n : ℕ) (told new : ℕ → Bool) where
  module _ (p : ℕ) (low : 1 ≤ p) (high : p ≤ n) (others : (i : ℕ) → i < n → i ≢ p - 1 → new i ≡ told i) where
    pub members-insert : new (p - 1) ≡ true → members n new ≡ set.insert (members n told) p
    members-insert is = told_set n new _ (λ q. grind (is, low, high, others (q - 1), contains-members told n q, contains-insert_is (members n told) p q, arith, nat_tests))

    pub members-remove : new (p - 1) ≡ false → members n new ≡ set.remove (members n told) p
    members-remove is = told_set n new _ (λ q. grind (is, low, high, others (q - 1), contains-members told n q, contains-remove_is (members n told) p q, arith, nat_tests))

  pub members-union : (other : ℕ → Bool) → ((i : ℕ) → i < n → new i ≡ (told i || other i)) → members n new ≡ set.union (members n told) (members n other)
  members-union other joined = told_set n new _ (λ q.
      grind (joined (q - 1), contains-members told n q, contains-members other n q, set.contains-union nat_cmp_total (members n told) (members n other) q, arith, nat_tests))

  pub members-difference : (other : ℕ → Bool) → ((i : ℕ) → i < n → new i ≡ (told i && not (other i))) → members n new ≡ set.difference (members n told) (members n other)
  members-difference other left = told_set n new _ (λ q.
      grind (left (q - 1), contains-members told n q, contains-members other n q, set.contains-difference nat_cmp_total (members n told) (members n other) q, arith, nat_tests))

  pub members-up_to : (m : ℕ) → ((i : ℕ) → i < n → new i ≡ (told i && nat_lt i m)) → members n new ≡ up_to m (members n told)
  members-up_to m low = told_set n new _ (λ q. grind (low (q - 1), contains-members told n q, contains-up_to m (members n told) q, arith, nat_tests))

-- one more place
pub len-more : (told : ℕ → Bool) (n : ℕ) → set.len (members (suc n) told) ≡ set.len (members n told) + cond (told n) 1 0
unfolding members
len-more told n = go (told n)
  where
    absent : set.contains (members n told) (suc n) ≡ false
    absent = grind (contains-members told n (suc n), arith, nat_tests)

    go : (b : Bool) → set.len (cond b (set.insert (members n told) (suc n)) (members n told)) ≡ set.len (members n told) + cond b 1 0
    go true = set.len-insert nat_cmp_total (members n told) (suc n) ∙ ap (λ b. cond b (set.len (members n told)) (set.len (members n told) + 1)) absent
    go false = omega arith
