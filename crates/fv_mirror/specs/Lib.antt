pub mod Admitting
pub mod Making
