-- Finite sets of events, by what is in them.
use Rattle.trace_laws.proofs.Words.{◌≡◌, ◌≢◌, ◌≤◌, ◌⊎◌, inl, inr, refl, sym, ap, ◌∙◌, subst, Ordering, Equal, true, false, cond, List, [], ◌∷◌, Option, Some, None, is_eq, arith, eq_by_cmp, cases_lt, false_from_ne_true, key_cmp, Key, StepInput, Event, Events, Has, IsLeast, joined, IsIn, keys_total, exact_keys, same_or_not, before_or_not, before_by_tick}
use Rattle.std.specs.FinMap as map
use Rattle.std.proofs.lemmas.Cmp.{tied_itself}
pub use Rattle.std.proofs.lemmas.Option.{none-some as not_None, same_Some}

-- one input at a key
pub one_input : (m : Events) (k : Key) (x y : StepInput) → Has m k x → Has m k y → x ≡ y
one_input m k x y a b = same_Some x y (sym a ∙ b)

pub tie : (r : Ordering) → is_eq r ≡ true → r ≡ Equal
tie r h = grind arith

pub tied : (a b : Key) → a ≡ b → eq_by_cmp key_cmp a b ≡ true
tied a b e = ap is_eq (subst (λ x. key_cmp a x ≡ Equal) e (tied_itself keys_total a))

pub apart : (a b : Key) → a ≢ b → eq_by_cmp key_cmp a b ≡ false
apart a b n = false_from_ne_true _ (λ h. n (exact_keys a b (tie _ h)))

module _ (m : Events) (k : Key) where
  pub insert_at : (x : StepInput) → map.get (map.insert m k x) k ≡ Some x
  insert_at x = map.get-insert keys_total m k x k ∙ ap (λ b. cond b (Some x) (map.get m k)) (tied k k refl)

  pub insert_other : (x : StepInput) (q : Key) → q ≢ k → map.get (map.insert m k x) q ≡ map.get m q
  insert_other x q n = map.get-insert keys_total m k x q ∙ ap (λ b. cond b (Some x) (map.get m q)) (apart q k n)

  pub remove_at : map.get (map.remove m k) k ≡ None
  remove_at = map.get-remove keys_total m k k ∙ ap (λ b. cond b None (map.get m k)) (tied k k refl)

  pub remove_other : (q : Key) → q ≢ k → map.get (map.remove m k) q ≡ map.get m q
  remove_other q n = map.get-remove keys_total m k q ∙ ap (λ b. cond b None (map.get m q)) (apart q k n)

  -- what is left was there, at another key
  pub removed : (q : Key) (y : StepInput) → Has (map.remove m k) q y → (q ≢ k) × Has m q y
  removed q y h = elim (same_or_not q k) [
    | inl e ↦ absurd (not_None y (sym (ap (map.get (map.remove m k)) e ∙ remove_at) ∙ h))
    | inr n ↦ (n, sym (remove_other q n) ∙ h)
  ]

  pub removed_back : (q : Key) (y : StepInput) → q ≢ k → Has m q y → Has (map.remove m k) q y
  removed_back q y n h = remove_other q n ∙ h

  pub inserted : (x : StepInput) (q : Key) (y : StepInput) → Has (map.insert m k x) q y → ((q ≡ k) × (y ≡ x)) ⊎ ((q ≢ k) × Has m q y)
  inserted x q y h = elim (same_or_not q k) [
    | inl e ↦ inl (e, same_Some y x (sym h ∙ ap (map.get (map.insert m k x)) e ∙ insert_at x))
    | inr n ↦ inr (n, sym (insert_other x q n) ∙ h)
  ]

-- sets with the same events are equal
pub same_events : (m n : Events) → ((k : Key) (x : StepInput) → Has m k x → Has n k x) → ((k : Key) (x : StepInput) → Has n k x → Has m k x) → m ≡ n
same_events m n there back = map.same_map keys_total exact_keys m n (λ k. go k (map.get m k) (map.get n k) refl refl)
  where
    go : (k : Key) → (a b : Option StepInput) → map.get m k ≡ a → map.get n k ≡ b → map.get m k ≡ map.get n k
    go k (Some x) b e f = e ∙ sym (there k x e)
    go k None (Some y) e f = back k y f ∙ sym f
    go k None None e f = e ∙ sym f

-- no two events of a list have one key
abbrev pub AreApart : List Event → Type 0
AreApart [] = Unit {0}
AreApart (e ∷ es) = ((f : Event) → IsIn f es → f.0 ≢ e.0) × AreApart es

-- no event of a list has a key of the set
abbrev pub AreNew : Events → List Event → Type 0
AreNew m es = (e : Event) → IsIn e es → (y : StepInput) → ¬ (Has m e.0 y)

-- what is in a set after events joined
pub joined_cases : (es : List Event) (m : Events) (q : Key) (y : StepInput) → Has (joined m es) q y → IsIn (q, y) es ⊎ Has m q y
joined_cases [] m q y h = inr h
joined_cases (e ∷ es) m q y h = elim (joined_cases es (map.insert m e.0 e.1) q y h) [
  | inl i ↦ inl (inr i)
  | inr there ↦ elim (inserted m e.0 e.1 q y there) [ inl p ↦ inl (inl (λ i. (p.0 i, p.1 i))) | inr p ↦ inr p.1 ]
]

new_after : (e : Event) (es : List Event) (m : Events) → AreApart (e ∷ es) → AreNew m (e ∷ es) → AreNew (map.insert m e.0 e.1) es
new_after e es m apart new f i y h =
    elim (inserted m e.0 e.1 f.0 y h) [ inl p ↦ apart.0 f i p.0 | inr p ↦ new f (inr i) y p.1 ]

pub joined_old : (es : List Event) (m : Events) → AreApart es → AreNew m es → (q : Key) (y : StepInput) → Has m q y → Has (joined m es) q y
joined_old [] m apart new q y h = h
joined_old (e ∷ es) m apart new q y h =
    joined_old es (map.insert m e.0 e.1) apart.1 (new_after e es m apart new) q y
    (insert_other m e.0 e.1 q (λ s. new e (inl refl) y (subst (λ z. Has m z y) s h)) ∙ h)

pub joined_new : (es : List Event) (m : Events) → AreApart es → AreNew m es → (q : Key) (y : StepInput) → IsIn (q, y) es → Has (joined m es) q y
joined_new [] m apart new q y i = absurd i
joined_new (e ∷ es) m apart new q y (inl s) =
    joined_old es (map.insert m e.0 e.1) apart.1 (new_after e es m apart new) q y
    (ap (map.get (map.insert m e.0 e.1)) (ap (λ (p : Event). p.0) s) ∙ insert_at m e.0 e.1 ∙ ap Some (sym (ap (λ (p : Event). p.1) s)))
joined_new (e ∷ es) m apart new q y (inr i) =
    joined_new es (map.insert m e.0 e.1) apart.1 (new_after e es m apart new) q y i

-- the least event is one
pub least_is_one : (m : Events) (k l : Key) (x y : StepInput) → IsLeast m k x → IsLeast m l y → k ≡ l
least_is_one m k l x y a b = elim (before_or_not k l) [
  | inl h ↦ absurd (b.none_before k x a.there h)
  | inr (inl e) ↦ e
  | inr (inr h) ↦ absurd (a.none_before l y b.there h)
]

-- none is of a tick before the least event's
pub least_first : (m : Events) (k q : Key) (x y : StepInput) → IsLeast m k x → Has m q y → k.tick ≤ q.tick
least_first m k q x y least there = elim (cases_lt q.tick k.tick) [
  | inl less ↦ absurd (least.none_before q y there (before_by_tick q k less))
  | inr up ↦ up
]
