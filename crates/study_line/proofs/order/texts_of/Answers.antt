use Rattle.study_line.proofs.{Basics.{◌∙◌, ap, map, ◌++◌, Bor, List, refl, ℕ, found_of, raw_values-rows}, Words.{all_texts}}
use Rattle.study_line.proofs.order.texts_of.Goals as goal

pub returns-in-Ok-clause-stated : goal.returns-in-Ok-clause-stated
returns-in-Ok-clause-stated c =
    ap (map (λ (t : Bor (List ℕ)). t.now))
    (c.in-Ok.ensures.items ∙ ap (λ items. items ++ c.unwrap_or-all.result.now) c.new-texts.ensures.items)
    ∙ (ap (λ (s : Bor (List (Bor (List ℕ)))). map (λ t. t.now) s.now) c.unwrap_or-all.ensures
    ∙ all_texts c.get_strs.result _ _ refl (c.get_strs.ensures ∙ raw_values-rows (found_of c.args.found.now)
    c.args.id.now))
