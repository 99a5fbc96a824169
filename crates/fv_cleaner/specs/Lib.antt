pub mod Searching
pub mod Filling
pub mod Stepping
pub mod Cleaning
pub mod Left
pub mod Staying
