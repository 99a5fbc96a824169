pub mod Looking
pub mod Meaning
pub mod Letters
