use Rattle.process_api.proofs.Basics.{◌++◌, List, take, EntryRecord}
use Rattle.process_api.proofs.follower.follow_all.Given as goal

-- those so far were told
abbrev pub invariant-loop-entry : goal.invariant-loop-entry
invariant-loop-entry g l =
    (first : _) (told : List EntryRecord) → g.F.Follower.followed first l.fn.follower told
    → g.F.Follower.followed first l.follower (told ++ take l.entry-index l.entries)
