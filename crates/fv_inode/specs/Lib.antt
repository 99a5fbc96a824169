pub mod Files
pub mod Failing
pub mod Changing
pub mod Listing
pub mod Readying
pub mod Losing
pub mod Blanking
