pub mod Maps
pub mod Codes
pub mod Owners
pub mod Bases
pub mod Counts
