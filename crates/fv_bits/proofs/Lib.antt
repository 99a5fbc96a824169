mod Apart
mod Bytes
pub mod Counts
pub mod Laws
mod Maps
mod Numbers
mod Rows
mod Seen
