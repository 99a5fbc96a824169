pub mod Told
pub mod Lent
pub mod LentLaws
pub mod Reaching
