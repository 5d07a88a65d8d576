use Rattle.std.proofs.Common.{◌≡◌, ◌⊎◌, inl, inr, refl, sym, ◌∙◌, true, false, true≢false}
use Rattle.std.specs.FinSet as set
use Rattle.process_api.specs.{Detector.{suspected_by, step_detector}, Place.{is_other}}
use Rattle.process_api.proofs.Keeping.{apart_from_itself}
use Rattle.base_tests.proofs.process_tests.laws.trusts_itself.Goals as goal

pub returns-clause-opens : goal.returns-clause-opens
returns-clause-opens c place numbers = c.law_base_detectors.ensures.opens place numbers place.own

pub returns-clause-stays : goal.returns-clause-stays
returns-clause-stays c place s now input trusted =
    elim (set.contains (suspected_by place (step_detector place s now input).state) place.own) as (λ b. set.contains (suspected_by place (step_detector place s now input).state) place.own ≡ b → b ≡ false) [
      | true ↦ λ is. absurd (go ((c.law_base_detectors.ensures.steps place s now input).others place.own is))
      | false ↦ λ is. refl
    ] refl
  where
    go : (set.contains (suspected_by place s) place.own ≡ true) ⊎ (is_other place.own place.processes place.own ≡ true) → ⊥
    go (inl before) = true≢false (sym before ∙ trusted)
    go (inr other) = apart_from_itself place other
