mod Naming
pub mod MapSlots
pub mod Positions
pub mod Labels
pub mod Loaded
pub mod Charging
pub mod Counted
pub mod StayingMaps
pub mod Growing
pub mod MapCounts
pub mod Lookups
pub mod Answered
pub mod KeptTables
pub mod TablesOf
pub mod Shared
pub mod SharedRoots
pub mod KeptStamps
mod SharedChanges
mod PlacedShared
pub mod SnapIds
pub mod SettledTables
pub mod OneVolumes
pub mod Numbered
pub mod SnapReads
pub mod Asked
mod CallCauses
pub mod Followed
pub mod Probed
pub mod Changed
pub mod Charged
mod FileCounts
mod FoundFiles
mod MadePut
mod MadeNew
mod ReadyAgain
pub mod EachRoot
pub mod JudgedCut
mod Calling
pub mod RightTables
pub mod Differing
mod TakenTable
pub mod Judged
pub mod JudgedNew
mod MadeCut
mod MadeRemoval
pub mod Placed
mod Commanded
pub mod Ruled
pub mod Spending
pub mod Undamaged
pub mod KeptReads
pub mod Promised
pub mod CountedMaps
pub mod SnapRecords
pub mod SnapSlots
pub mod SnapNames
pub mod ActiveRoot
pub mod SlotMoves
pub mod KeptSlots
pub mod ActiveSlot
pub mod ActiveStands
pub mod Committed
pub mod Based
pub mod BasedRules
pub mod IdsCounted
pub mod AllRoots
pub mod NewClone
pub mod KnownBases
pub mod SlotCounts
pub mod OwnIds
pub mod SnapFinds
pub mod Cloned
mod Mirrored
