use Rattle.study_commands.proofs.{Words.{inl, map, rules, option_map, IsOfWordsFor, SaysNoLayout}, Reasons.{words_as}}
use Rattle.study_commands.proofs.sweeping.layout_of.Goals as goal

pub returns-in_err-groups-clause-refused : goal.returns-in_err-groups-clause-refused
returns-in_err-groups-clause-refused c =
    let f = c.in_err-groups.field-0.0 in
    let columns = option_map (λ w. w.now) c.args.columns in
    let why : IsOfWordsFor (SaysNoLayout c.args.each (map (λ w. w.now) c.args.pairs.now) columns c.args.grid.now) f =
    words_as _ _ f c.in_err-groups.ensures.refused inl in
    search rules
