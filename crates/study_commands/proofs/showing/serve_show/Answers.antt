use Rattle.study_commands.proofs.{Words.{rules, inl, inr, length, points, runs, sources_of, IsBefore, IsOfWordsFor, IsOutside, StopsShow}, Reasons.{sources_stop, study_text, words_stop}}
use Rattle.study_commands.proofs.showing.serve_show.Goals as goal

pub returns-clause-text : goal.returns-clause-text
returns-clause-text g c = record {
  grid = c.in_ok-grid.grid;
  is_grid = c.in_ok-grid.ensures.grid;
  sources = sources_of c.in_ok-sources.sources;
  are_sources = c.in_ok-sources.ensures.sources;
  point_place = c.in_ok-point_place.point_place;
  is_point = rw c.points.ensures.value at c.in_ok-point_place.ensures.place;
  run_place = c.in_ok-run_place.run_place;
  is_run = rw c.runs.ensures.value at c.in_ok-run_place.ensures.place;
  text = rw c.into_bytes.ensures.value c.in_ok-text.ensures.text;
  is_short = rw c.into_bytes.ensures.value c.in_ok-text.ensures.short;
}

pub returns-in_err-point_place-clause-why : goal.returns-in_err-point_place-clause-why
returns-in_err-point_place-clause-why g c =
    let f = c.in_err-point_place.field-0.0 in
    let input = g.I.Read.remaining c.args.input.now in
    let grid = c.in_ok-grid.grid in
    let refused : IsOfWordsFor (IsOutside c.args.point (length (points grid))) f =
    rw c.points.ensures.value at c.in_err-point_place.ensures.refused in
    let why : IsBefore (StopsShow input c.args.texts.now c.args.words.now c.args.point c.args.run) f =
    words_stop _ _ _ f refused (λ out. inr (grid, c.in_ok-grid.ensures.grid, inl out)) in
    search rules

pub returns-in_err-run_place-clause-why : goal.returns-in_err-run_place-clause-why
returns-in_err-run_place-clause-why g c =
    let f = c.in_err-run_place.field-0.0 in
    let input = g.I.Read.remaining c.args.input.now in
    let grid = c.in_ok-grid.grid in
    let refused : IsOfWordsFor (IsOutside c.args.run (length (runs grid))) f =
    rw c.runs.ensures.value at c.in_err-run_place.ensures.refused in
    let why : IsBefore (StopsShow input c.args.texts.now c.args.words.now c.args.point c.args.run) f =
    words_stop _ _ _ f refused (λ out. inr (grid, c.in_ok-grid.ensures.grid, inr (inl out))) in
    search rules

pub returns-in_err-sources-clause-why : goal.returns-in_err-sources-clause-why
returns-in_err-sources-clause-why g c =
    let f = c.in_err-sources.field-0.0 in
    let input = g.I.Read.remaining c.args.input.now in
    let grid = c.in_ok-grid.grid in
    let why : IsBefore (StopsShow input c.args.texts.now c.args.words.now c.args.point c.args.run) f =
    sources_stop input c.args.texts.now _ _ grid f c.in_err-sources.ensures.why
    (λ none. inr (grid, c.in_ok-grid.ensures.grid, inr (inr none))) (λ line none. inl none) in
    search rules

pub returns-in_err-text-clause-why : goal.returns-in_err-text-clause-why
returns-in_err-text-clause-why g c =
    let f = c.in_err-text.field-0.0 in
    let input = g.I.Read.remaining c.args.input.now in
    let why : IsBefore (StopsShow input c.args.texts.now c.args.words.now c.args.point c.args.run) f =
    study_text _ _ _ f c.in_err-text.ensures.refused (λ none line. inr (record {
      grid = c.in_ok-grid.grid;
      is_grid = c.in_ok-grid.ensures.grid;
      sources = sources_of c.in_ok-sources.sources;
      are_sources = c.in_ok-sources.ensures.sources;
      point_place = c.in_ok-point_place.point_place;
      is_point = rw c.points.ensures.value at c.in_ok-point_place.ensures.place;
      run_place = c.in_ok-run_place.run_place;
      is_run = rw c.runs.ensures.value at c.in_ok-run_place.ensures.place;
      none = none;
    })) in
    search rules
