pub mod Past
pub mod Story
pub mod Blocks
pub mod Laws
pub mod Lived
pub mod Tallies
pub mod Host
pub mod Tears
