pub mod Choice
pub mod Delay
pub mod Holding
pub mod Reclaims
pub mod ByThreshold
