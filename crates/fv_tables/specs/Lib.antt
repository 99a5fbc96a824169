pub mod Spelled
pub mod Told
pub mod Reached
pub mod Kept
pub mod Ids
pub mod Alike
