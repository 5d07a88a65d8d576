use Rattle.std.proofs.lemmas.Grind.{common_steps}
use Rattle.study.proofs.Basics.{arith}
use Rattle.study.proofs.shard.Shard.parse.Goals as goal

pub returns-in_default-clause-err : goal.returns-in_default-clause-err
returns-in_default-clause-err c = grind (arith, common_steps)

pub returns-then-not-is_natural_word-clause-err : goal.returns-then-not-is_natural_word-clause-err
returns-then-not-is_natural_word-clause-err c = grind (arith, common_steps)

pub returns-in-Some-Some-clause-ok : goal.returns-in-Some-Some-clause-ok
returns-in-Some-Some-clause-ok c = grind (arith, common_steps)

pub returns-in-Some-Some-clause-err : goal.returns-in-Some-Some-clause-err
returns-in-Some-Some-clause-err c = grind (arith, common_steps)

pub returns-in_default-2-clause-err : goal.returns-in_default-2-clause-err
returns-in_default-2-clause-err c = grind (arith, common_steps)
