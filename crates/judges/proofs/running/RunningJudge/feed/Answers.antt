use Rattle.judges.specs.Track.{new_track}
use Rattle.judges.proofs.running.RunningJudge.feed.Goals as goal

pub returns : goal.returns
returns c = λ S layer trace h until. c.feed.ensures S layer new_track trace h until
