use Rattle.study_commands.proofs.{Words.{rules, Bor, List, ℕ, [], get_or, contains_image}, Axes.{one_more}, Reasons.{words_as}}
use Rattle.study_commands.proofs.study_words.axes_of.Goals as goal

abbrev nothing : Bor (List ℕ)
nothing = record { ref_ptr = (0, 0); now = [] }

pub loop-word-preserved : goal.loop-word-preserved
loop-word-preserved c =
    one_more c.args.words.now c.loop-word.word-index nothing c.loop-word-test.true _ _ c.in-Ok.axis c.in-Ok.ensures.ok
    (search rules) c.loop-word.invariant

pub returns-in-Err-clause-refused : goal.returns-in-Err-clause-refused
returns-in-Err-clause-refused c =
    words_as _ _ c.axis_fault.result c.axis_fault.ensures (λ other. record {
      word = (get_or c.args.words.now c.loop-word.word-index nothing).now;
      there = contains_image (λ w. w.now) c.args.words.now c.loop-word.word-index nothing c.loop-word-test.true;
      reason = c.in-Err.error;
      other = other;
      says = c.in-Err.ensures.err other;
    })
