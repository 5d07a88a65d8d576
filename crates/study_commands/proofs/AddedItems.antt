-- Optional items, added one after the other.
use Rattle.study_commands.proofs.Words.{◌≡◌, ◌∙◌, ap, append_assoc, refl, sym, ℕ, ◌+◌, ◌<◌, List, [], ◌∷◌, ◌++◌, length, map, get_or, take, Option, Some, None, option_to_list, map-append, take_more, filter_map-append, cons_option, filter_map, option_map}

-- one more of something for each
pub filter_map_more : {X Y : Type 0} (h : X → Option Y) (xs : List X) (k : ℕ) (d : X) → k < length xs
    → filter_map h (take (k + 1) xs) ≡ filter_map h (take k xs) ++ option_to_list (h (get_or xs k d))
filter_map_more h xs k d low =
    ap (filter_map h) (take_more xs k d low) ∙ filter_map-append h (take k xs) (get_or xs k d ∷ [])
    ∙ ap (λ l. filter_map h (take k xs) ++ l) (one (h (get_or xs k d)))
  where
    one : {Z : Type 0} (o : Option Z) → cons_option o [] ≡ option_to_list o
    one None = refl
    one (Some z) = refl

pub map_option : {X Y : Type 0} (f : X → Y) (xs : List X) (o : Option X)
    → map f (xs ++ option_to_list o) ≡ map f xs ++ option_to_list (option_map f o)
map_option f xs None = map-append f xs []
map_option f xs (Some x) = map-append f xs (x ∷ [])

-- one more of a list, of whose items something may come
module _ {X Y Z : Type 0} (f : Y → Option Z) (g : X → Y) (xs : List X) (k : ℕ) (x : X) (low : k < length xs)
    (is : x ≡ get_or xs k x) where
  pub mapped_more : filter_map f (map g (take (k + 1) xs)) ≡ filter_map f (map g (take k xs)) ++ option_to_list (f (g x))
  mapped_more =
      ap (λ l. filter_map f (map g l)) (take_more xs k x low)
      ∙ ap (filter_map f) (map-append g (take k xs) (get_or xs k x ∷ []))
      ∙ filter_map-append f (map g (take k xs)) (g (get_or xs k x) ∷ [])
      ∙ ap (λ l. filter_map f (map g (take k xs)) ++ l) (one (f (g (get_or xs k x))))
      ∙ ap (λ y. filter_map f (map g (take k xs)) ++ option_to_list (f (g y))) (sym is)
    where
      one : (o : Option Z) → cons_option o [] ≡ option_to_list o
      one None = refl
      one (Some z) = refl

  -- and it is added
  pub added : {W : Type 0} (h : W → Z) (old now new : List W) (o : Option W) → new ≡ now ++ option_to_list o
      → map h now ≡ map h old ++ filter_map f (map g (take k xs)) → option_map h o ≡ f (g x)
      → map h new ≡ map h old ++ filter_map f (map g (take (k + 1) xs))
  added h old now new o new_is so_far said =
      ap (map h) new_is ∙ map_option h now o
      ∙ ap (λ l. l ++ option_to_list (option_map h o)) so_far
      ∙ ap (λ p. (map h old ++ filter_map f (map g (take k xs))) ++ option_to_list p) said
      ∙ append_assoc (map h old) (filter_map f (map g (take k xs))) (option_to_list (f (g x)))
      ∙ ap (λ l. map h old ++ l) (sym mapped_more)
