use Rattle.network.proofs.{Basics.{words_taken, to_come}, Coming.{after-none}}
use Rattle.network.proofs.words.SourceWords.ticks.Goals as goal

pub returns-in-Ticks-clause-rest : goal.returns-in-Ticks-clause-rest
unfolding words_taken
returns-in-Ticks-clause-rest c = rw c.in-Ticks.is (after-none (to_come c.args.self.now))
