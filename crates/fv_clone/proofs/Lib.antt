pub mod Asked
pub mod Refused
pub mod Source
pub mod Made
pub mod Placed
pub mod Machine
pub mod Held
