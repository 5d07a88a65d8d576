use Rattle.study_commands.proofs.Words.{◌≡◌, ◌∙◌, ◌++◌, ◌+◌, arith, ap, sym, refl, append_assoc, codes, drop, drop-cons, map, string_bytes, ◌∷◌, [], ℕ, suc, chosen, choice_text, choices_text}
use Rattle.study.specs.declared.axis.Choice.{Choice}
use Rattle.study_commands.proofs.run_name.push_choices.Goals as goal

pub loop-choice-preserved : goal.loop-choice-preserved
unfolding lib.Utf8.encode
loop-choice-preserved c =
    let all = c.args.choices.now in
    let k = c.loop-choice.choice-index in
    let choice : Choice = c.choice-item.result in
    let before = c.loop-choice.before.now in
    let name = string_bytes c.loop-choice.name in
    let rest = choices_text (codes ", ") (map chosen (drop (suc k) all)) in
    let one : suc k ≡ k + 1 = omega arith in
    let later : choices_text (codes ", ") (map chosen (drop (suc k) all)) ≡ choices_text (codes ", ") (map chosen (drop (k + 1) all)) =
    ap (λ (m : ℕ). choices_text (codes ", ") (map chosen (drop m all))) one in (
      (44 ∷ (32 ∷ []), (refl, refl)),
      c.loop-choice.invariant.1
          ∙ ap (λ l. name ++ choices_text before (map chosen l)) (drop-cons all k choice c.loop-choice-test.true)
          ∙ ap (λ x. name ++ (choice_text before (chosen x) ++ rest)) (sym c.choice-item.is)
          ∙ sym (append_assoc name (choice_text before (chosen choice)) rest)
          ∙ ap (λ l. l ++ rest) (sym c.in_ok-push_choice.ensures)
          ∙ ap (λ l. string_bytes c.push_choice.new.name ++ l) later,
    )
