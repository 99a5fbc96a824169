mod Boxes
mod Lists
mod Standing
mod Calls
mod Judging
pub mod Laws
