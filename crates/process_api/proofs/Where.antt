-- A follower that may be there.
use Rattle.process_api.proofs.Basics.{◌≡◌, Bool, true, false, refl, Option, None, Some, List, EntryRecord}
use Rattle.process_api.specs.Answer.{HasFollowedWhere, IsWhere}

module _ {F : Type 0} (followed : F → F → List EntryRecord → Type 0) (told : List EntryRecord) where
  pub same_where : ((f : F) → followed f f told) → (o : Option F) → HasFollowedWhere followed o o told
  same_where same None = tt
  same_where same (Some f) = same f

  pub then_where : (was is : F → Type 0) → ((f g : F) → followed f g told → was f → is g) → (asked : Bool) (first now : Option F)
      → HasFollowedWhere followed first now told → IsWhere asked was first → IsWhere asked is now
  then_where was is step true (Some f) (Some g) h w = step f g h w
  then_where was is step true (Some f) None h w = absurd h
  then_where was is step true None now h w = absurd w
  then_where was is step false (Some f) now h w = absurd w
  then_where was is step false None (Some g) h w = absurd h
  then_where was is step false None None h w = tt

module _ {X : Type 0} (is : X → Type 0) (asked : Bool) where
  pub there_where : (x : X) → IsWhere asked is (Some x) → (asked ≡ true) × is x
  there_where x = elim asked as (λ b. IsWhere b is (Some x) → (b ≡ true) × is x) [ true ↦ λ h. (refl, h) | false ↦ λ h. absurd h ]

  pub absent_where : IsWhere asked is None → asked ≡ false
  absent_where = elim asked as (λ b. IsWhere b is None → b ≡ false) [ true ↦ λ h. absurd h | false ↦ λ h. refl ]
