use Rattle.study_commands.proofs.{Words.{rules, Bor, List, ℕ, [], get_or, contains_image}, Axes.{one_set_more}, Reasons.{words_as}}
use Rattle.study_commands.proofs.assigned.assignments_of.Goals as goal

abbrev nothing : Bor (List ℕ)
nothing = record { ref_ptr = (0, 0); now = [] }

pub loop-word-preserved : goal.loop-word-preserved
loop-word-preserved c =
    one_set_more c.args.words.now c.loop-word.word-index nothing c.loop-word-test.true _ _ c.in-Ok.assignment
    c.in-Ok.ensures.ok (search rules) c.loop-word.invariant

pub returns-in-Err-clause-refused : goal.returns-in-Err-clause-refused
returns-in-Err-clause-refused c =
    words_as _ _ c.assignment_fault.result c.assignment_fault.ensures (λ other. record {
      word = (get_or c.args.words.now c.loop-word.word-index nothing).now;
      there = contains_image (λ w. w.now) c.args.words.now c.loop-word.word-index nothing c.loop-word-test.true;
      reason = c.in-Err.error;
      other = other;
      says = c.in-Err.ensures.err other;
    })
