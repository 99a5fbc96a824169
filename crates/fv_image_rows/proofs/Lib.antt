mod Rows
mod EmptyVolumes
mod Vectors
mod LoneLeaf
mod LoneVolumes
mod Samples
mod Faults
mod PlainVolumes
mod PlainImages
pub mod Computing
pub mod FileVectors
pub mod SmallImages
mod FileRows
pub mod FileFaults
pub mod BlockFaults
mod SoundFiles
mod DeepTrees
mod DeepFiles
mod SmallTables
mod SpaceFaults
