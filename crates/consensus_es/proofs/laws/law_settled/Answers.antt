use Rattle.consensus_es.proofs.{Settled.{settled, settles_on, settles_here}, Bound.{step_few}, Choosing.{best_is}}
use Rattle.consensus_es.proofs.laws.law_settled.Goals as goal

pub returns-clause-over : goal.returns-clause-over
returns-clause-over c n own is_suspected input s = settled n own is_suspected input s

pub returns-clause-little : goal.returns-clause-little
returns-clause-little c n own first last is_suspected not_itself input s orderly =
    let few = step_few n own first last is_suspected not_itself input s orderly in
    (few.0, few.1)

pub returns-clause-rounds : goal.returns-clause-rounds
returns-clause-rounds c n own first last is_suspected not_itself input s orderly = (step_few n own first last is_suspected not_itself input s orderly).2

pub returns-clause-ends : goal.returns-clause-ends
returns-clause-ends c n own is_suspected s = (settles_on n own is_suspected s, settles_here n own is_suspected s)

pub returns-clause-best : goal.returns-clause-best
returns-clause-best c n of_sender e is = best_is n of_sender e is
