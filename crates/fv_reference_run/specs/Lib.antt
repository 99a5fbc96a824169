pub mod Meaning
pub mod Endings
pub mod Output
pub mod Answering
pub mod Running
