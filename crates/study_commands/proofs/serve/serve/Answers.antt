use Rattle.study_commands.proofs.{Words.{map, Answers, Leaves, Writes, end_of, line_of, status_of, StopsFor, Explains, States}, Stopping.{unasked_status}}
use Rattle.study_commands.specs.{Inside.Statuses.{has_status}, Serve.{AreAnswered, TellsOf}, WarningText.{IsToldFor}}
use Rattle.shell.proofs.Serving.{at_zero, ends}
use Rattle.study_commands.proofs.serve.serve.Goals as goal

pub returns : goal.returns
returns g c =
    let input = g.I.Read.remaining c.args.input.now in
    let words = map (λ w. w.now) c.args.words.now in
    let outcome = c.answer_words-outcome in
    record {
      ends =
          ends status_of end_of has_status (States words) (Explains words) TellsOf (StopsFor input) unasked_status
          line_of (AreAnswered words) (Answers input) (Writes input) (Leaves input) g.O.Outlet.told g.O.Outlet.failed
          _ _ g.F.Outlet.told g.F.Outlet.failed _ _ c.ended.result outcome.result c.ended.ensures.done
          c.ended.ensures.failed outcome.ensures.text outcome.ensures.why;
      told = c.ended.ensures.told;
      taken = outcome.ensures.taken;
      untouched = outcome.ensures.untouched;
      warned = λ zero.
          let Told = IsToldFor g.W.Watcher.heard g.W.Warned.warned c.args.watcher.now outcome.new.watcher input words in
          at_zero status_of end_of has_status c.ended.result Told _ outcome.result outcome.ensures.told
          c.ended.ensures.failed zero;
      hidden = outcome.ensures.hidden;
    }
