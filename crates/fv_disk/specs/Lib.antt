pub mod Shown
pub mod DiskCalls
pub mod HostCalls
pub mod Crash
pub mod Partly
pub mod Sparing
pub mod Faults
