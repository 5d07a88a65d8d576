use Rattle.bench_commands.proofs.{Words.{◌∙◌, map, sym, arith, AsksHelp, Explains, States, Answers, Leaves, Writes, end_of, line_of, status_of, IsReason, TellsOf, StopsFor}, Stopping.{run_asked, unasked_status}}
use Rattle.{bench_commands.specs.Inside.Statuses.{has_status}, shell.proofs.Serving.{ends, failure_of}}
use Rattle.bench_commands.proofs.serving.serve.Goals as goal

pub returns : goal.returns
returns g c =
    let input = g.I.Read.remaining c.args.input.now in
    let words = map (λ w. w.now) c.args.words.now in
    let outcome = c.answer_words-outcome in
    let ended =
    ends status_of end_of has_status (States words) (Explains words) TellsOf (StopsFor input) unasked_status line_of
    (λ _. AsksHelp words) (Answers input) (Writes input) (Leaves input) g.O.Outlet.told g.O.Outlet.failed _ _
    g.F.Outlet.told g.F.Outlet.failed _ _ c.ended.result outcome.result c.ended.ensures.done c.ended.ensures.failed
    outcome.ensures.text outcome.ensures.why in
    record {
      ends = ended;
      accepted = λ three.
          let at =
          failure_of status_of line_of g.F.Outlet.told g.F.Outlet.failed _ _ (IsReason input words) c.ended.result
          (ended.why (λ zero. omega (arith, three, zero))) in
          run_asked input words at.0 at.2 (sym at.1 ∙ three);
      told = c.ended.ensures.told;
      taken = outcome.ensures.taken;
      untouched = outcome.ensures.untouched;
    }
