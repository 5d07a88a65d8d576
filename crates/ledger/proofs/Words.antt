-- Words and lemmas of the libraries and of this crate that several proofs use.
pub use Rattle.std.proofs.Common.{List, None, Option, Some, [], add-one, ap, append-nil, append_assoc, arith, drop, get_or, inl, inr, length, length-append, map, refl, set, subst, suc, sym, take, zero, ℕ, ⊎_elim, ◌++◌, ◌+◌, ◌<◌, ◌∙◌, ◌∷◌, ◌≡◌, ◌≢◌}
pub use Rattle.std.proofs.lemmas.List.{length-map, map-append, map_more, nil_from_length}
pub use Rattle.std.proofs.lemmas.List.Sorted.{Contains-permutation, IsPermutation-append_comm, IsPermutation-append_left, IsPermutation-append_right, IsPermutation-middle, IsPermutation-refl, IsPermutation-sym, IsPermutation-trans, length_permutation}
pub use Rattle.std.proofs.lemmas.List.Sums.{sum_by-append, sum_by-cons}
pub use Rattle.std.specs.List.{AllZip, Contains, flat_map, sum_by}
pub use Rattle.std.specs.List.Sorted.{IsPermutation}
pub use lib.ListN.{get_elem?}
pub use mathlib.Core.Option.{some, some-injective, some-ne-none}
