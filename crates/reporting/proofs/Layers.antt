-- What is told of all layers, from what is told of each.
use Rattle.std.proofs.Common.{◌≡◌, ℕ, Bool, true, false, cond, refl, sym, ap, ◌∙◌, is_some, List, [], ◌∷◌, ◌++◌, flat_map, append-nil}
use Rattle.reporting.proofs.Words.{EntryRecord, Record, layer_measures, second_measures, all_measures}

pub layered : {X : Type 0} (of : ℕ → List X) (b : Bool) → of 1 ++ cond b (of 2) [] ≡ flat_map of (cond b (1 ∷ 2 ∷ []) (1 ∷ []))
layered of true = ap (λ xs. of 1 ++ xs) (sym (append-nil (of 2)))
layered of false = refl

module _ (S : Record) (trace : List EntryRecord) where
  pub both_layers : layer_measures S trace 1 ++ second_measures S trace ≡ all_measures S trace
  unfolding all_measures
  both_layers = layered (layer_measures S trace) (is_some S.share)

  pub one_layer : is_some S.share ≡ false → layer_measures S trace 1 ≡ all_measures S trace
  one_layer none = sym (append-nil (layer_measures S trace 1)) ∙ ap (λ b. layer_measures S trace 1 ++ cond b (layer_measures S trace 2) []) (sym none) ∙ both_layers

  pub two_layers : is_some S.share ≡ true → layer_measures S trace 1 ++ layer_measures S trace 2 ≡ all_measures S trace
  two_layers some = ap (λ b. layer_measures S trace 1 ++ cond b (layer_measures S trace 2) []) (sym some) ∙ both_layers
