pub mod Padding
pub mod Versions
pub mod MapPlaces
