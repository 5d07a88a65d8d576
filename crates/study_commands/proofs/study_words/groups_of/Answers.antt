use Rattle.study_commands.proofs.{Words.{◌≡◌, ◌≢◌, rules, false, Bor, List, ℕ, [], get_or, contains_image, is_group_memory}, Axes.{one_group_more}, Reasons.{words_as}}
use Rattle.study_commands.proofs.study_words.groups_of.Goals as goal
use Rattle.sweep.specs.declared.error.GroupError.{GroupError}
use Rattle.sweep.specs.declared.error.GroupError.TheVariants as group

abbrev nothing : Bor (List ℕ)
nothing = record { ref_ptr = (0, 0); now = [] }

-- an error that isn't of memory is another one
other_than : (e : GroupError) → is_group_memory e ≡ false → e ≢ group.Memory
other_than group.Memory other same = cc other
other_than _ other same = cc same

pub loop-word-preserved : goal.loop-word-preserved
loop-word-preserved c =
    one_group_more c.args.words.now c.loop-word.word-index nothing c.loop-word-test.true _ _ c.in-Ok.group
    c.in-Ok.ensures.ok (search rules) c.loop-word.invariant

pub returns-in-Err-clause-refused : goal.returns-in-Err-clause-refused
returns-in-Err-clause-refused c =
    words_as _ _ c.group_fault.result c.group_fault.ensures (λ other. record {
      word = (get_or c.args.words.now c.loop-word.word-index nothing).now;
      there = contains_image (λ w. w.now) c.args.words.now c.loop-word.word-index nothing c.loop-word-test.true;
      reason = c.in-Err.error;
      other = other;
      says = c.in-Err.ensures.err (other_than c.in-Err.error other);
    })
