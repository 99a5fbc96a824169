pub mod Rows
pub mod Creating
pub mod Housed
pub mod UnderRoot
pub mod Destroying
pub mod Finding
pub mod Footing
pub mod Learned
