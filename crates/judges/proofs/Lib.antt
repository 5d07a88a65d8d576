pub mod Words
-- the verdicts: tracks tell since when one process suspects another, and the grid of all tracks tells the verdicts
pub mod Below
pub mod Lasting
pub mod Turns
pub mod Standing
pub mod Entering
pub mod Tracks
pub mod Judging
pub mod Meaning
pub mod Closing
pub mod Order
pub mod Adding
pub mod Following
-- the outcomes
pub mod Outcoming
-- what the parts of a process do in every run
pub mod Members
pub mod Letters
pub mod Algorithms
pub mod PartsActions
pub mod Instances
-- the rotating coordinator: its head says the argument
pub mod Agreement
-- shared suspicions
pub mod Blamed
