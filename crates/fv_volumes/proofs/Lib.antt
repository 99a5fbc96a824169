pub mod Labelled
pub mod Stepping
mod Ledgers
pub mod Viewed
pub mod Mapping
pub mod Told
pub mod Made
pub mod Trees
pub mod Apart
pub mod Alone
pub mod Chains
pub mod Agreed
mod Holders
pub mod LoadedTables
pub mod LoadedStored
mod Counting
pub mod Drawing
mod MapBlocks
mod MapMarks
pub mod SlotBlocks
pub mod Renewing
pub mod Sparing
mod Spelling
pub mod CleanSlots
mod Storing
pub mod Stored
pub mod StoredSlot
pub mod StillLoaded
pub mod LoadedBlocks
pub mod Spacing
pub mod Reclaiming
pub mod Settled
pub mod Reaches
pub mod StaysStates
pub mod Distinct
pub mod Housing
pub mod StillAdmitted
pub mod LentSlots
pub mod RootFound
pub mod Settling
pub mod StoredTold
pub mod Standings
pub mod Others
pub mod Beside
pub mod Openings
pub mod NewStanding
pub mod Reached
pub mod Facts
pub mod Records
pub mod Owned
pub mod PlacedIn
pub mod HeldAlone
pub mod SeenAlone
pub mod HeldSettled
pub mod Staying
pub mod Resting
pub mod KnownSteps
pub mod FreeNumbers
pub mod Waiting
pub mod PromisedOne
pub mod PromisedAll
pub mod Destroyed
mod MarkedSlots
pub mod Removed
pub mod DestroyedOthers
pub mod Emptied
pub mod SlotReads
pub mod SlotRoots
pub mod StandingMaps
mod EndsIn
pub mod OnChains
pub mod Footed
pub mod CalledFooted
pub mod PlacedFooted
pub mod SnapFooted
pub mod SettledFooted
pub mod AddedClone
pub mod Added
pub mod AddedView
pub mod MadeFooted
pub mod NamedBases
pub mod SlotTests
pub mod BaseTold
pub mod StoodOn
pub mod FootedSeen
mod HeldBase
pub mod LoadedBase
pub mod LoadedStates
pub mod Learned
pub mod HoleContainers
