-- Of some values the greatest, and the nearest-rank percentile, by counting.
use Rattle.std.specs.{Prelude.{ℕ, ◌+◌, ◌*◌, ◌≤◌, max, nat_le, Option, None, Some, List, [], ◌∷◌, length, ◌≡◌, Bool, if◌then◌else◌}, List.{count_by, Contains, sum_by}}
use Rattle.sweep.specs.declared.value_counts.ValueCounts.{ValueCounts}

-- the greater of two, if there is one
abbrev pub greater : Option ℕ → Option ℕ → Option ℕ
greater None b = b
greater (Some a) None = Some a
greater (Some a) (Some b) = Some (max a b)

-- the greatest of them, if there is one
abbrev pub greatest : List ℕ → Option ℕ
greatest [] = None
greatest (v ∷ values) = greater (Some v) (greatest values)

-- how many of the values are at most v
abbrev pub at_most : ℕ → List ℕ → ℕ
at_most v values = count_by (λ x. nat_le x v) values

-- of some values, and of so many infinite ones that come last
module _ (p : ℕ) (values : List ℕ) (infinite : ℕ) where
  -- at least p in 100 of all of them are at most v
  abbrev pub Covers : ℕ → Type 0
  Covers v = p * (length values + infinite) ≤ 100 * at_most v values

  -- the least of the values which at least p in 100 of all of them are at most
  pub record IsRanked (v : ℕ) : Type 0 where
    pub value : Contains values v
    pub covers : Covers v
    pub least : (w : ℕ) → Contains values w → Covers w → v ≤ w

  -- there is none where the rank falls on an infinite one, or where nothing is ranked
  abbrev pub IsPercentile : Option ℕ → Type 0
  IsPercentile None = (w : ℕ) → Contains values w → Covers w → ⊥
  IsPercentile (Some v) = IsRanked v

-- how many of the values pass a test, where each entry is a value and how often it came
abbrev pub passing : (ℕ → Bool) → List (ℕ × ℕ) → ℕ
passing test entries = sum_by (λ e. if test e.0 then e.1 else 0) entries

-- each value has its count
pub record AreCounted (values : List ℕ) (c : ValueCounts) : Type 0 where
  pub counts : (test : ℕ → Bool) → count_by test values ≡ passing test c.counts.entries
  pub total : c.total ≡ length values
  pub highest : c.greatest ≡ greatest values
