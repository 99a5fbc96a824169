pub mod Creating
pub mod Deleting
pub mod Restoring
pub mod Granting
