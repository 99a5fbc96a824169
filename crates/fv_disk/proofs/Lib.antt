pub mod Counting
mod Giving
pub mod Moments
pub mod Resting
pub mod Sparing
pub mod Reading
