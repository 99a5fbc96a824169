mod Lying
mod Filled
pub mod Searched
mod Undamaged
mod Rooted
mod RootsWalked
pub mod Unled
pub mod Ruled
mod Stepped
pub mod Lowers
pub mod Known
pub mod Beside
pub mod Moving
pub mod Stays
pub mod Held
pub mod Finished
pub mod NoneLeft
pub mod Cleaned
pub mod Rerooted
pub mod RootsHeld
pub mod Step
pub mod Spaced
pub mod Exact
pub mod Sessions
pub mod SpacedRoots
pub mod Ended
mod Followed
pub mod SlotTables
pub mod Cleanable
