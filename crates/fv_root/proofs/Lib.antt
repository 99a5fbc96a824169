mod Committing
mod EmptyMachine
mod Finding
mod Fixed
mod Gates
pub mod Laws
mod Making
mod Apart
mod Ranges
mod Rooted
mod Sides
pub mod Crashes
