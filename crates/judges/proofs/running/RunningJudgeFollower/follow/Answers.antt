use Rattle.{judges.specs.Pairs.{IsJudging}, judges.proofs.Following.{next_followed}}
use Rattle.judges.proofs.running.RunningJudgeFollower.follow.Goals as goal

pub returns : goal.returns
returns c = next_followed IsJudging c.args.self.now c.feed.new.self c.args.entry.now c.feed.ensures
