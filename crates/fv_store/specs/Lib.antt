pub mod Boxed
pub mod Held
