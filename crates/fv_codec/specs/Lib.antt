pub mod Bytes
pub mod Fields
pub mod Blocks
pub mod Forms
pub mod Spelling
