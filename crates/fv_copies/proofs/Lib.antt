pub mod Leaving
pub mod Numbers
pub mod Marking
pub mod Landed
