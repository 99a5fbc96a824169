pub mod Admissions
mod Counting
pub mod Commits
