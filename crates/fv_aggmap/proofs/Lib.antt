mod Areas
mod Counting
mod Holding
pub mod Room
pub mod FreeRoom
pub mod Giving
