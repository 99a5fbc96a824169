mod Rows
pub mod AllVolumes
pub mod Ascending
pub mod Enough
pub mod Giving
pub mod Held
pub mod InVolume
pub mod Joining
pub mod Left
pub mod Levels
pub mod Parts
pub mod Passing
pub mod Reclaimed
pub mod RoomLeft
mod Skipping
pub mod Sorting
pub mod Taking
pub mod TakenRegions
pub mod Walking
pub mod ByThreshold
