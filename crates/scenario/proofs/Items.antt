-- Items of an array.
use Rattle.scenario.proofs.Words.{◌≡◌, ℕ, suc, ◌<◌, ◌+◌, List, [], ◌∷◌, length, get_or, Some, refl, ap, sym, ◌∙◌, add-one, view, items_view, Value, count, item_numbered}
use Rattle.toml.proofs.Views.{get_item_within}

pub count_view : (vs : List Value) → count (items_view vs) ≡ length vs
count_view [] = refl
count_view (v ∷ vs) = ap suc (count_view vs)

-- the item at a place, by its number from 1
pub item_view : (vs : List Value) (i : ℕ) (v : Value) → i < length vs → v ≡ get_or vs i v → item_numbered (i + 1) (items_view vs) ≡ Some (view v)
item_view vs i v lt is = rw add-one (sym (get_item_within vs i v lt) ∙ ap (λ w. Some (view w)) (sym is))
