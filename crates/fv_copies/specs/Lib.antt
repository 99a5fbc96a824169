pub mod Copying
pub mod Landings
pub mod LandingLaws
