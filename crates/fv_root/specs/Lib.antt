pub mod Commits
pub mod Finding
pub mod Formatted
pub mod Steps
