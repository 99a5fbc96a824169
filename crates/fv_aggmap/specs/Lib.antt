pub mod Freeing
pub mod Giving
pub mod Loading
pub mod Space
