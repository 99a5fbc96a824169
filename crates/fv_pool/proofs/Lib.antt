mod Writing
mod Lent
mod Setting
pub mod Holding
pub mod Moved
pub mod AlongChains
pub mod Shows
mod PlaceShown
mod Fields
pub mod Going
pub mod Failing
pub mod CallCauses
mod TableCauses
mod DropCauses
mod LeftTables
pub mod TakenTrees
mod PlacedFree
pub mod PlaceCauses
pub mod OverBlocks
