pub mod CommandLine
pub mod Reading
pub mod Parts
pub mod Telling
pub mod Spelled
pub mod Summary
pub mod Generated
