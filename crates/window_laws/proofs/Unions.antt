-- Sets that are joined, the entries of a set, and lists that are filtered or mapped.
use Rattle.window_laws.proofs.Words.{◌≡◌, ◌≢◌, ◌⊎◌, ◌↔◌, ℕ, ◌≤◌, inl, inr, refl, sym, ap, ◌∙◌, subst, Bool, true, false, cond, ◌&&◌, arith, List, [], ◌∷◌, Some, T, Ordering, Less, Equal, Greater, is_eq, is_lt, true≢false, nat_lt, filter, map, ltb-false, or_parts, list_any, key_cmp, Key, StepInput, keys_total, exact_keys, same_or_not, not_before_itself, Event, Events, Has, NoneBelow, joined, IsIn, not_None, same_Some, insert_at, insert_other, AreApart, apart, tie, Waiting, Held, Done, has_below, first_status}
use Rattle.std.proofs.lemmas.Cmp.{tied_itself}
use Rattle.std.specs.{Ordering.{eq_by_cmp}, FinMap.{find, is_sorted, Entries.{below_all}}}
use Rattle.std.specs.FinMap as finmap

module _ {A B C D P Q : Type 0} where
  pub iff_join : A ↔ (P ⊎ Q) → P ↔ (B ⊎ C) → (C → D) → (Q → D) → (D → C ⊎ Q) → A ↔ (B ⊎ D)
  iff_join rest here f g h = ((λ a. there (rest.0 a)), (λ d. rest.1 (back d)))
    where
      first : B ⊎ C → B ⊎ D
      first (inl b) = inl b
      first (inr c) = inr (f c)

      there : P ⊎ Q → B ⊎ D
      there (inl p) = first (here.0 p)
      there (inr q) = inr (g q)

      split : C ⊎ Q → P ⊎ Q
      split (inl c) = inl (here.1 (inr c))
      split (inr q) = inr q

      back : B ⊎ D → P ⊎ Q
      back (inl b) = inl (here.1 (inl b))
      back (inr d) = split (h d)

pub in_filter : {X : Type 0} (t : X → Bool) (x : X) (xs : List X) → IsIn x (filter t xs) → IsIn x xs × (t x ≡ true)
in_filter t x [] i = absurd i
in_filter t x (y ∷ ys) i = go (in_filter t x ys) (t y) refl i
  where
    go : (IsIn x (filter t ys) → IsIn x ys × (t x ≡ true)) → (b : Bool) → t y ≡ b → IsIn x (cond b (y ∷ filter t ys) (filter t ys)) → IsIn x (y ∷ ys) × (t x ≡ true)
    go later true is (inl e) = (inl e, ap t e ∙ is)
    go later true is (inr j) = (inr (later j).0, (later j).1)
    go later false is j = (inr (later j).0, (later j).1)

pub filter_in : {X : Type 0} (t : X → Bool) (x : X) (xs : List X) → IsIn x xs → t x ≡ true → IsIn x (filter t xs)
filter_in t x [] i e = absurd i
filter_in t x (y ∷ ys) i e = go (filter_in t x ys) (t y) refl i
  where
    go : (IsIn x ys → t x ≡ true → IsIn x (filter t ys)) → (b : Bool) → t y ≡ b → IsIn x (y ∷ ys) → IsIn x (cond b (y ∷ filter t ys) (filter t ys))
    go later true is (inl f) = inl f
    go later true is (inr j) = inr (later j e)
    go later false is (inl f) = absurd (true≢false (sym e ∙ ap t f ∙ is))
    go later false is (inr j) = later j e

pub in_map : {X Y : Type 0} (f : X → Y) (xs : List X) (y : Y) → IsIn y (map f xs) → (x : X) × IsIn x xs × (y ≡ f x)
in_map f [] y i = absurd i
in_map f (x ∷ xs) y (inl e) = (x, inl refl, e)
in_map f (x ∷ xs) y (inr i) = let r = in_map f xs y i in (r.0, inr r.1, r.2)

pub map_in : {X Y : Type 0} (f : X → Y) (xs : List X) (x : X) → IsIn x xs → IsIn (f x) (map f xs)
map_in f [] x i = absurd i
map_in f (y ∷ xs) x (inl e) = inl (ap f e)
map_in f (y ∷ xs) x (inr i) = inr (map_in f xs x i)

-- an event that joins is there, and an old one, where all that join with its key have its input
pub joined_back : (es : List Event) (m : Events) (q : Key) (y : StepInput) → ((e : Event) → IsIn e es → e.0 ≡ q → e.1 ≡ y) → IsIn (q, y) es ⊎ Has m q y → Has (joined m es) q y
joined_back [] m q y same (inl i) = absurd i
joined_back [] m q y same (inr h) = h
joined_back (e ∷ es) m q y same c = joined_back es (finmap.insert m e.0 e.1) q y (λ f i. same f (inr i)) (next c)
  where
    at : q ≡ e.0 → Has (finmap.insert m e.0 e.1) q y
    at s = ap (finmap.get (finmap.insert m e.0 e.1)) s ∙ insert_at m e.0 e.1 ∙ ap Some (same e (inl refl) (sym s))

    old : Has m q y → (q ≡ e.0) ⊎ (q ≢ e.0) → Has (finmap.insert m e.0 e.1) q y
    old h (inl s) = at s
    old h (inr n) = insert_other m e.0 e.1 q n ∙ h

    next : IsIn (q, y) (e ∷ es) ⊎ Has m q y → IsIn (q, y) es ⊎ Has (finmap.insert m e.0 e.1) q y
    next (inl (inl s)) = inr (at (ap (λ (z : Event). z.0) s))
    next (inl (inr i)) = inl i
    next (inr h) = inr (old h (same_or_not q e.0))

-- ---- the entries of a set

is_less : (r : Ordering) → T (is_lt r) → r ≡ Less
is_less Less h = refl
is_less Equal h = absurd h
is_less Greater h = absurd h

first_part : (a b : Bool) → T (a && b) → T a
first_part a b h = grind arith

second_part : (a b : Bool) → T (a && b) → T b
second_part a b h = grind arith

above : (k : Key) (es : List Event) → T (below_all key_cmp k es) → (e : Event) → IsIn e es → key_cmp k e.0 ≡ Less
above k [] t e i = absurd i
above k (f ∷ es) t e (inl s) = is_less _ (subst (λ (z : Event). T (is_lt (key_cmp k z.0))) (sym s) (first_part _ _ t))
above k (f ∷ es) t e (inr i) = above k es (second_part _ _ t) e i

sorted_apart : (es : List Event) → T (is_sorted key_cmp es) → AreApart es
sorted_apart [] t = tt
sorted_apart (e ∷ es) t =
    ((λ f i s. not_before_itself e.0 (subst (λ z. key_cmp e.0 z ≡ Less) s (above e.0 es (first_part _ _ t) f i))), sorted_apart es (second_part _ _ t))

found_in : (es : List Event) (q : Key) (y : StepInput) → find key_cmp q es ≡ Some y → IsIn (q, y) es
found_in [] q y h = absurd (not_None y h)
found_in (e ∷ es) q y h = go (found_in es q y) (eq_by_cmp key_cmp q e.0) refl h
  where
    go : (find key_cmp q es ≡ Some y → IsIn (q, y) es) → (b : Bool) → eq_by_cmp key_cmp q e.0 ≡ b → cond b (Some e.1) (find key_cmp q es) ≡ Some y → IsIn (q, y) (e ∷ es)
    go later true is h2 = inl (λ i. (exact_keys q e.0 (tie _ is) i, same_Some y e.1 (sym h2) i))
    go later false is h2 = inr (later h2)

in_found : (es : List Event) → AreApart es → (q : Key) (y : StepInput) → IsIn (q, y) es → find key_cmp q es ≡ Some y
in_found [] a q y i = absurd i
in_found (e ∷ es) a q y (inl s) =
    ap (λ (r : Ordering). cond (is_eq r) (Some e.1) (find key_cmp q es)) (subst (λ z. key_cmp q z ≡ Equal) (ap (λ (z : Event). z.0) s) (tied_itself keys_total q)) ∙ ap Some (sym (ap (λ (z : Event). z.1) s))
in_found (e ∷ es) a q y (inr i) =
    ap (λ b. cond b (Some e.1) (find key_cmp q es)) (apart q e.0 (a.0 (q, y) i)) ∙ in_found es a.1 q y i

module _ (m : Events) where
  pub entries_apart : AreApart (finmap.entries m)
  entries_apart = sorted_apart (finmap.entries m) (finmap.entries_sorted m)

  pub has_entry : (q : Key) (y : StepInput) → Has m q y → IsIn (q, y) (finmap.entries m)
  has_entry q y h = found_in (finmap.entries m) q y (sym (finmap.get-entries m q) ∙ h)

  pub entry_has : (q : Key) (y : StepInput) → IsIn (q, y) (finmap.entries m) → Has m q y
  entry_has q y i = finmap.get-entries m q ∙ in_found (finmap.entries m) entries_apart q y i

-- ---- the status at the opening of a window

none_passes : {X : Type 0} (t : X → Bool) (xs : List X) → list_any t xs ≡ false → (x : X) → IsIn x xs → t x ≡ false
none_passes t [] h x i = absurd i
none_passes t (y ∷ ys) h x (inl e) = ap t e ∙ (or_parts (t y) (list_any t ys) h).0
none_passes t (y ∷ ys) h x (inr i) = none_passes t ys (or_parts (t y) (list_any t ys) h).1 x i

pub done_at_first : (end : ℕ) (m : Events) → first_status end m ≡ Done → NoneBelow end m
done_at_first end m is q y h = go (has_below end m) refl is
  where
    go : (b : Bool) → has_below end m ≡ b → cond b Waiting Done ≡ Done → end ≤ q.tick
    go true e f = absurd (cc)
    go false e f = ltb-false _ _ (none_passes (λ (z : Event). nat_lt z.0.tick end) (finmap.entries m) e (q, y) (has_entry m q y h))

pub not_held_at_first : (end : ℕ) (m : Events) (a : ℕ) → first_status end m ≡ Held a → ⊥
not_held_at_first end m a is = go (has_below end m) is
  where
    go : (b : Bool) → cond b Waiting Done ≡ Held a → ⊥
    go true e = cc
    go false e = cc
