use Rattle.study_commands.proofs.{Words.{inl, inr, map, rules, subst, Bor, List, ℕ, IsBefore, IsOfWordsFor, StopsSweep, SaysNoLayout}, Reasons.{sources_stop, words_stop}}
use Rattle.study_commands.proofs.sweeping.said_over.Goals as goal
use Rattle.study_commands.specs.Study.{columns_word}

pub returns-in_err-layout-clause-why : goal.returns-in_err-layout-clause-why
returns-in_err-layout-clause-why g c =
    let f = c.in_err-layout.field-0.0 in
    let study = c.args.study.now in
    let grid = c.in_ok-grid.grid in
    let P : List (Bor (List ℕ)) → Type 0 = λ words.
    IsOfWordsFor (SaysNoLayout study.each (map (λ w. w.now) words) (columns_word study) grid) f in
    let refused : P study.pairs.items = subst P c.deref.ensures.value c.in_err-layout.ensures.refused in
    let why : IsBefore (StopsSweep (g.I.Read.remaining c.args.input.now) c.args.texts.now study) f =
    words_stop _ _ _ f refused (λ none. inr (inr (grid, c.in_ok-grid.ensures.grid, inl none))) in
    search rules

pub returns-in_err-sources-clause-why : goal.returns-in_err-sources-clause-why
returns-in_err-sources-clause-why g c =
    let f = c.in_err-sources.field-0.0 in
    let input = g.I.Read.remaining c.args.input.now in
    let study = c.args.study.now in
    let grid = c.in_ok-grid.grid in
    let why : IsBefore (StopsSweep input c.args.texts.now study) f =
    sources_stop input c.args.texts.now _ _ grid f c.in_err-sources.ensures.why
    (λ none. inr (inr (grid, c.in_ok-grid.ensures.grid, inr none))) (λ line none. inl none) in
    search rules
