use Rattle.study.proofs.{Basics.{◌∙◌, [], ◌∷◌, map, ap, w64, rules, to_z-of_z, map_push, FitsSigned, number, settings_in, range_of}, Pieces.{number_pushed}}
use Rattle.study.proofs.axis_words.push_numbers.Goals as goal

pub loop-step-preserved : goal.loop-step-preserved
loop-step-preserved c =
    let fit : FitsSigned w64 c.number.result = search rules in
    let now = c.loop-step.values.items in
    number_pushed (map settings_in c.args.values.now.items) (map settings_in now) (map settings_in c.push.new.self.items)
    (range_of c.args.range) c.loop-step.step (settings_in c.in_ok-value.value)
    (ap (map settings_in) c.in_ok-push.ensures.items ∙ map_push settings_in now c.in_ok-value.value)
    (c.in_ok-value.ensures ∙ ap (λ z. number z ∷ []) (to_z-of_z w64 c.number.result fit ∙ c.number.ensures)) c.loop-step.invariant
