use Rattle.std.proofs.Common.{◌≡◌, ◌∙◌, IsTrue, not, false, ap, refl, sym}
use Rattle.std.specs.FinSet as set
use Rattle.process_api.specs.{Mind.{AlgorithmState, Idle, Exchanging, Coordinating, leaves_out, stands_at}, Place.{Place}, Sets.{Processes}}
use Rattle.process_api.proofs.Minds.{same_own}
use Rattle.base_tests.proofs.driving.drive_algorithm.Goals as goal

-- suspects that leave out the process of a place leave out that of the algorithm which stands there
left_out : (place : Place) (suspects : Processes) (a : AlgorithmState) → IsTrue (stands_at place a) → set.contains suspects place.own ≡ false → IsTrue (leaves_out suspects a)
left_out place suspects Idle at out = refl
left_out place suspects (Exchanging its s) at out = ap not (ap (set.contains suspects) (same_own its place at) ∙ out)
left_out place suspects (Coordinating its s) at out = ap not (ap (set.contains suspects) (same_own its place at) ∙ out)

pub take-taken-requires : goal.take-taken-requires
take-taken-requires g c = left_out _ _ _ c.loop-tick.invariant (sym c.contains.ensures ∙ c.if-contains.false)
