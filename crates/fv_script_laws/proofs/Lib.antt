mod Zeros
pub mod Hexes
pub mod Written
pub mod Spaced
pub mod Shown
mod Told
