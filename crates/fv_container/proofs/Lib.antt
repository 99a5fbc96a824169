mod Token
mod Tests
mod Chains
pub mod Damage
pub mod Changing
mod Nodes
mod Reading
mod Entries
pub mod Named
pub mod Leading
mod Trees
mod Walks
mod Walking
mod Whole
mod Positions
mod Regions
mod Taking
mod Flushed
pub mod Clean
mod Loaded
mod Puts
mod Found
mod Stored
mod Opened
mod Counting
mod Occupied
mod Marked
mod Placing
mod Moving
pub mod Laws
