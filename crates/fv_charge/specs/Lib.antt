pub mod Ledgers
pub mod Changes
pub mod Counted
