pub mod Snaps
mod Words
mod Rows
mod Covers
mod Noted
mod Linked
mod Filling
mod Caused
mod AddingOn
mod Entries
mod Reading
mod Labelled
mod Earlier
mod Chain
mod Stopped
pub mod Ranges
mod LabelPlaces
mod Spelled
mod OneSlot
mod Passing
pub mod RootShapes
