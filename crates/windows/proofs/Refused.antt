-- Answers and refusals.
use Rattle.windows.proofs.Words.{◌≡◌, ◌⊎◌, inl, inr, Result, Ok, Err, IfErr, IfErr-weaker, IsErrOf, RunError, Limit, Memory, AreThere, IsFirstRefusal, IsRefusal, IsRefusalOfOne}

-- an answer is no refusal
pub not_err : {A E : Type 0} (x : A) (d : E) → ◌≡◌ {A = Result A E} (Ok x) (Err d) → ⊥
not_err x d is = cc

-- a refusal of one process is one of a window
pub one_refused : {X : Type 0} (r : Result X RunError) → IfErr r IsRefusalOfOne → IfErr r IsRefusal
one_refused r h = IfErr-weaker r _ _ (λ e one. elim one [ inl limit ↦ inl limit | inr memory ↦ inr (inl memory) ]) h

-- why two answers aren't put together: the first of their refusals, or that memory was refused where both are there
module _ {X A B : Type 0} (left : Result A RunError) (right : Result B RunError) where
  pub first_of : (r : Result X RunError) → IfErr r (IsFirstRefusal left right) → IfErr r (λ e. IsFirstRefusal left right e ⊎ ((e ≡ Memory) × AreThere left right))
  first_of (Ok x) h = tt
  first_of (Err e) h = inl h

  pub last_of : AreThere left right → (r : Result X RunError) → IfErr r (λ e. e ≡ Memory) → IfErr r (λ e. IsFirstRefusal left right e ⊎ ((e ≡ Memory) × AreThere left right))
  last_of there (Ok x) h = tt
  last_of there (Err e) h = inr (h, there)

-- where memory alone is refused, it isn't a place in the trace
pub memory_alone : {A : Type 0} (r : Result A RunError) → IfErr r (λ e. e ≡ Memory) → IsErrOf r Limit → ⊥
memory_alone (Ok x) h is = cc
memory_alone (Err e) h is = cc
