-- What is said of a file, from what is said of its table.
use Rattle.{std.proofs.Common.{ℕ, List, Some, Result, Ok, Err, IfOk, refl}, toml.specs.Data.{Members}}
use Rattle.scenario.specs.{Text.{record_of}, Refusals.{IsDocumentOf}, declared.error.ScenarioError.{ScenarioError}}
use Rattle.scenario.proofs.Reading.{accepted, refused}
use Rattle.diagnosis.specs.{Diagnosis.{HasPlace, IsReason, IsDiagnosisOf, IsTableDiagnosisOf}, Text.{Reason, no_toml, found, nothing}, declared.answer.Diagnosis.{Diagnosis}}
use Rattle.diagnosis.specs.declared.answer.Diagnosis.TheVariants as diagnosis

-- what is found in a table has no line
unplaced : (bytes : List ℕ) (e : ScenarioError) (file : Members) (its : Reason) → IsReason e (Some file) its → HasPlace bytes its
unplaced bytes e file (no_toml n) is = absurd is
unplaced bytes e file (found its meant) is = tt
unplaced bytes e file nothing is = tt

pub told : (bytes : List ℕ) (file : Members) (d : Diagnosis) → IsDocumentOf bytes (Some file) → IsTableDiagnosisOf file d → IsDiagnosisOf bytes d
told bytes file (diagnosis.Accepted a) is_document is = record {
  stands_for = record_of file;
  accepts = accepted bytes file (Ok (record_of file)) is_document is.unrefused refl;
  describes = is.describes;
}
told bytes file (diagnosis.Refused r) is_document is = record {
  refuses = refused bytes file (Err r.refusal) is_document (λ other. is.applies) is.other;
  document = Some file;
  is_document = is_document;
  its = is.its;
  is_reason = is.is_reason;
  placed = unplaced bytes r.refusal file is.its is.is_reason;
  told = is.told;
}

pub told_ok : {E : Type 0} (bytes : List ℕ) (file : Members) (r : Result Diagnosis E) → IsDocumentOf bytes (Some file) → IfOk r (IsTableDiagnosisOf file) → IfOk r (IsDiagnosisOf bytes)
told_ok bytes file (Ok d) is_document is = told bytes file d is_document is
told_ok bytes file (Err e) is_document is = tt
