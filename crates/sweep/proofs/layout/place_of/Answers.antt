use Rattle.sweep.proofs.{Words.{◌∙◌, rules, string_bytes, sym, tests, YieldsList-from_slice}, Places.{position_map}}
use Rattle.{std.proofs.lemmas.Iterator.Search.{position_from_yields_List}, scenario.specs.Table.{same_text}}
use Rattle.sweep.proofs.layout.place_of.Goals as goal

pub returns : goal.returns
returns c =
    position_from_yields_List (λ n. same_text c.args.word.now (string_bytes n)) _ _ c.position.result c.position.ensures.ran
    (YieldsList-from_slice c.args.names.now cc) (λ x b q k. search (rules, tests)) ∙ sym (position_map (same_text c.args.word.now) c.args.names.now)
