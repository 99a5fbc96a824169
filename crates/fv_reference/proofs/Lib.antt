pub mod Views
pub mod Finite
pub mod Levels
pub mod Counting
pub mod Allowed
pub mod Room
