mod Times
mod Tallying
mod Blocks
mod Levels
mod HeldNodes
mod HeldSlots
mod Sums
pub mod Noting
mod Least
mod Repeated
mod Bitwise
mod Areas
mod VolumeMaps
pub mod Judging
mod Behind
mod Keeping
mod Cells
mod Firsts
mod MapRoots
mod Showing
mod BaseIds
pub mod OwnTables
mod MapsOfRoots
pub mod SameLines
mod TwinSteps
mod OneTable
pub mod WalkedFacts
mod SnapTables
mod VolumeLaw
pub mod VolumeParts
mod BaseParts
mod WholeVolume
pub mod ThirdSlots
mod MapKinds
