use Rattle.bench_commands.proofs.Words.{◌≡◌, ◌∙◌, ap, sym, refl, ℕ, List, Bool, true, false, setting_of, one_trace, printed, Both, Record}
use Rattle.bench_commands.specs.Answer.{IsWritten}
use Rattle.bench_commands.proofs.comparing.compare.Goals as goal

-- both ways to run a scenario write the same
written_alike : (S : Record) (a b : List ℕ) → IsWritten S a → IsWritten S b → a ≡ b
written_alike S a b x y = x.text ∙ (ap (printed Both S) (one_trace (setting_of S) y.trace x.trace y.is_within.is_trace x.is_within.is_trace) ∙ sym y.text)

not_different : (same : Bool) → (same ≡ false → ⊥) → same ≡ true
not_different true h = refl
not_different false h = absurd (h refl)

pub returns-clause-same : goal.returns-clause-same
returns-clause-same g c =
    let alike = written_alike c.args.scenario.now _ _ c.in_ok-listed.ensures.written c.in_ok-windowed.ensures.written in (
      not_different c.same_bytes.result (λ differs. c.same_bytes.ensures.different differs (c.bytes.ensures ∙ (alike ∙ sym c.bytes-2.ensures))),
      (_, c.in_ok-listed.ensures.written),
    )
