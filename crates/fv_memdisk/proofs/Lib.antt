pub mod Steps
pub mod Changes
pub mod Calls
pub mod Sound
pub mod Tearing
pub mod Images
pub mod Boxes
