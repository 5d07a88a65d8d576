-- Runs whose scenarios were read, one number after the other.
use Rattle.sweep.proofs.Words.{◌≡◌, ℕ, ◌+◌, ◌-◌, ◌≤◌, ◌<◌, ⊎_elim, List, Bool, true, Result, Ok, Err, IfErr, arith, sym, subst, slice_index_or, cases_lt, SourcesRecord, GridRecord, Group, IsReadyAt, IsRefusalAt, IsFirstRefusal, SweepError}
use Rattle.sweep.specs.declared.error.SweepError.TheVariants as error

-- what is said of an error's reason
pub if_err : {T E : Type 0} (r : Result T E) (P : E → Type 0) (e : E) → r ≡ Err e → P e → IfErr r P
if_err {T} {E} r P e is p = let Q : Result T E → Type 0 = λ q. IfErr q P in subst Q (sym is) p

module _ (sources : SourcesRecord) (g : GridRecord) (groups : List Group) where
  -- what the first answers of a batch say of the numbers before
  pub read_more : (first next k : ℕ) (are_read : List Bool)
      → ((n : ℕ) → first ≤ n → n < next → IsReadyAt sources g groups n)
      → ((i : ℕ) (d : Bool) → i < k → slice_index_or are_read i d ≡ true → IsReadyAt sources g groups (next + i))
      → ((i : ℕ) (d : Bool) → i < k → slice_index_or are_read i d ≡ true)
      → (n : ℕ) → first ≤ n → n < next + k → IsReadyAt sources g groups n
  read_more first next k are_read before each all n low high =
      let P : ℕ → Type 0 = λ m. IsReadyAt sources g groups m in
      ⊎_elim
      (λ (lt : n < next). before n low lt)
      (λ (ge : next ≤ n).
      let i : n - next < k = omega (arith, ge, high) in
      let same : next + (n - next) ≡ n = omega (arith, ge) in
      subst P same (each (n - next) true i (all (n - next) true i)))
      (cases_lt n next)

  pub first_refusal : (first end n : ℕ) (e : SweepError) → first ≤ n → n < end → IsRefusalAt sources g groups n e
      → ((m : ℕ) → first ≤ m → m < n → IsReadyAt sources g groups m) → IsFirstRefusal sources g groups first end e
  first_refusal first end n (error.Refused point run reason) low high refused before = (n, low, high, refused, before)
  first_refusal first end n error.Memory low high refused before = tt
  first_refusal first end n (error.NoSuchProcess point run group processes) low high refused before = (n, low, high, refused, before)
  first_refusal first end n error.Write low high refused before = absurd refused

pub if_any_err : {A E : Type 0} (r : Result A E) (P : Type 0) → P → IfErr r (λ e. P)
if_any_err (Ok a) P p = tt
if_any_err (Err e) P p = p
