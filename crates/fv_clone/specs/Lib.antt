pub mod Admitting
pub mod Creating
