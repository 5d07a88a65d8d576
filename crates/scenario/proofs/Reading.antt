-- What reading a scenario answers, from what reading its table answers.
use Rattle.scenario.proofs.Words.{◌≡◌, ℕ, List, Some, None, Result, Ok, Err, IfOk, IfErr, refl, false, Members, Record, record_of, Accepts, Refuses, IsDocumentOf, Judges, is_memory, refusal_of, ScenarioError}
use Rattle.scenario.specs.declared.error.ScenarioError.TheVariants as error

pub accepted : (bytes : List ℕ) (t : Members) (r : Result Record ScenarioError) → IsDocumentOf bytes (Some t)
    → Judges (refusal_of t) r → IfOk r (λ s. s ≡ record_of t) → IfOk r (Accepts bytes)
accepted bytes t (Ok s) is_document judged same = record {
  table = t;
  is_document = is_document;
  unrefused = judged;
  stands_for = same;
}
accepted bytes t (Err x) is_document judged same = tt

pub refused : (bytes : List ℕ) (t : Members) (r : Result Record ScenarioError) → IsDocumentOf bytes (Some t)
    → Judges (refusal_of t) r → IfErr r (λ x. is_memory x ≡ false → Refuses bytes x)
refused bytes t (Ok s) is_document judged = tt
refused bytes t (Err x) is_document judged = λ other. record { document = Some t; is_document = is_document; applies = judged other }

pub refused_text : (bytes : List ℕ) → IsDocumentOf bytes None → Refuses bytes error.NotToml
refused_text bytes is_document = record { document = None; is_document = is_document; applies = refl }
