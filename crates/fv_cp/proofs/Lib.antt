pub mod Stepping
pub mod Crashing
mod CourseEntries
pub mod Ending
pub mod Flushing
pub mod CameIn
pub mod Prepared
pub mod Lendable
pub mod Whole
pub mod Keeping
pub mod Choosing
pub mod LeftDelayed
pub mod Marking
pub mod Missing
pub mod Counting
pub mod Known
pub mod Plans
pub mod OwnCharged
pub mod Planned
pub mod Pointing
pub mod ByPlan
pub mod Room
pub mod SameChoice
pub mod Sums
mod Clearing
