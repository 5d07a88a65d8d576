use Rattle.std.proofs.{Common.{w64}, lemmas.Int.{to_z-of_z}}
use Rattle.diagnosis.proofs.text.write_not_before.Goals as goal

pub returns : goal.returns
returns g c = λ p ok. rw (to_z-of_z w64 c.args.begin c.ranges.begin, to_z-of_z w64 c.args.until c.ranges.until) at (c.write.ensures.writes p ok)
