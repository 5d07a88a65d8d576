use Rattle.judges.proofs.{Words.{◌∙◌, refl, new_track, passed}, Closing.{judging_closed}}
use Rattle.judges.proofs.running.RunningJudge.close.Goals as goal

pub returns : goal.returns
returns c = λ S layer trace h. c.grid_verdicts.ensures ∙ judging_closed passed (λ t. t) new_track refl (λ until now end t. refl) S layer trace c.args.self.pairs h
