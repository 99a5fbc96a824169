mod Words
mod Along
mod Blocks
mod RootSteps
pub mod Volumes
mod SlotSteps
pub mod Listed
pub mod BaseReach
