-- What whoever follows a run tells of it.
use Rattle.std.proofs.Common.{◌≡◌, ℕ, suc, ◌<◌, ◌^◌, Bool, true, false, cond, sym, ap, ◌∙◌, subst, arith, Option, Some, None, is_some, List, [], ◌∷◌, ◌++◌, flat_map, length, take, drop, get_or, append_assoc, Result, Ok, Err, OnOk, OnErr, IfOk, IfErr}
use Rattle.reporting.proofs.Words.{Vec, sum_by, take-append-drop, drop-cons, EntryRecord, Record, verdicts, second_text, found_text, layers, all_measures, items_of, Text, report_header, run_text, verdict_text, pair_text, decisions_text, report_text, IsCounting, IsTextWhere, Counts}
use Rattle.reporting.proofs.Layers.{layered}
use Rattle.process_api.specs.declared.run_error.RunError.{RunError, TheVariants.{Write}}
use Rattle.judges.specs.Outcomes.{outcomes}
use Rattle.reporting.specs.{Running.{AreFindings, second_verdicts}, declared.findings.RunFindings.{RunFindings}}

-- counts that fit are exact
pub counted : (trace : List EntryRecord) (c : Counts) → IsCounting trace c → length trace < 2 ^ 64
    → (c.entries ≡ length trace) × (c.sent ≡ sum_by (λ e. e.sent) trace) × (c.lost ≡ sum_by (λ e. e.lost) trace)
counted trace c h small = (omega (arith, h.entries), omega (arith, h.sent, h.sent_high), omega (arith, h.lost, h.lost_high))

-- ---- the report

module _ (S : Record) (trace : List EntryRecord) where
  second_is : (b : Bool) → second_text (cond b (Some (verdicts S trace 2)) None) ≡ cond b (verdict_text 2 (verdicts S trace 2)) []
  second_is true = λ i. verdict_text 2 (verdicts S trace 2)
  second_is false = λ i. []

  pub found_is : (f : RunFindings) → AreFindings S trace f → found_text S.algorithm f ≡ report_text S trace
  unfolding found_text report_text
  found_is f h =
      let s = h.summary in
      let g : ℕ → Text = λ layer. verdict_text layer (verdicts S trace layer) in
      let l : g 1 ++ second_text (second_verdicts S trace) ≡ flat_map g (layers S)
      = ap (λ t. g 1 ++ t) (second_is (is_some S.share)) ∙ layered g (is_some S.share) in
      (λ i. report_header
      ++ (run_text (s.entries i) (s.sent i) (s.lost i)
      ++ ((verdict_text 1 (h.first i) ++ second_text (h.second i))
      ++ (flat_map pair_text (h.measures i) ++ decisions_text S.algorithm (s.decided i)))))
      ∙ (λ i. report_header
      ++ (run_text (length trace) (sum_by (λ e. e.sent) trace) (sum_by (λ e. e.lost) trace)
      ++ (l i ++ (flat_map pair_text (all_measures S trace) ++ decisions_text S.algorithm (outcomes trace S.processes)))))

-- ---- results

pub on_ok : {T E P Q : Type 0} (r : Result T E) → (P → Q) → OnOk r P → OnOk r Q
on_ok (Ok x) f p = f p
on_ok (Err e) f p = p

pub if_ok : {T E : Type 0} {P Q : T → Type 0} (r : Result T E) → ((x : T) → P x → Q x) → IfOk r P → IfOk r Q
if_ok (Ok x) f p = f x p
if_ok (Err e) f p = p

-- what holds of a reason holds of an answer with that reason
pub if_reason : {X E : Type 0} (r : Result X E) (P : E → Type 0) (e : E) → IfErr r (λ f. f ≡ e) → P e → IfErr r P
if_reason (Ok x) P e is p = tt
if_reason (Err f) P e is p = subst P (sym is) p

-- what a failed write left
pub err_part : {X P Q : Type 0} (r : Result X RunError) → (r ≡ Err Write → P) → IfErr r (λ e. e ≡ Write) → (P → Q) → OnErr r Q
err_part (Ok x) part only f = tt
err_part (Err e) part only f = f (part (ap Err only))

pub text_items : (text : Text) (report : Option (Vec ℕ)) → IsTextWhere true text report → items_of report ≡ text
text_items text None h = absurd h
text_items text (Some t) h = h

-- a list is its front, an entry, and what comes after
pub split_at : (es : List EntryRecord) (i : ℕ) (e : EntryRecord) → i < length es → e ≡ get_or es i e → es ≡ (take i es ++ e ∷ []) ++ drop (suc i) es
split_at es i e l is =
    sym (append_assoc (take i es) (e ∷ []) (drop (suc i) es)
    ∙ ap (λ x. take i es ++ x ∷ drop (suc i) es) is
    ∙ ap (λ ys. take i es ++ ys) (sym (drop-cons es i e l))
    ∙ take-append-drop i es)
