pub mod Words
-- The bounds of detectors, in every trace. Begin here.
--
-- 1. Above, Machines: all that a process does on a layer, its detector of that layer does; a reduction or an algorithm above it
--    sends none of its letters, asks for none of its wakes and notes nothing of its layer. So the process is seen as that
--    detector alone, whose state each step moves or leaves. Events says which events a step adds, and from which action each comes,
--    and Added so of its wakes and letters.
-- 2. Ending, Output, Standing: the list comes by a world at the end of each tick, and what each step keeps holds of it. OUT at
--    that tick is the set of the detector in that world, since its notes are how its set changes.
-- 3. Clock: of the wakes of one kind that a process asks for, one alone is pending, and its tick is known. So a detector doesn't
--    miss one while it is up.
-- 4. Freshness: p has sent so many heartbeats as its Beats allowed, none from its crash on; none above that is on its way or
--    came to q; and q reached so many points as its Checks allowed. Hence both bounds, at the end of a tick.
-- 5. Timeouts: the same for letters, bounds and checks of a time-out.
-- 6. Verdicts: what the bounds of pairs make of strong accuracy and strong completeness. Kept puts the two kinds of detector in.
-- 7. Shares, Shared, Sharing: a detection of layer 1 that stands for good is in the set of the next share; once that set has come,
--    and no set of the crashed process comes anymore, it stands for good on layer 2.
-- Fates, Multiples, Others and Watching are small laws of links, ticks and processes.
pub mod Events
pub mod Added
pub mod Above
pub mod Machines
pub mod Ending
pub mod Output
pub mod Standing
pub mod Clock
pub mod Instances
pub mod Fates
pub mod Multiples
pub mod Others
pub mod Watching
pub mod Freshness
pub mod Timeouts
pub mod Verdicts
pub mod Kept
pub mod Shares
pub mod Shared
pub mod Sharing
