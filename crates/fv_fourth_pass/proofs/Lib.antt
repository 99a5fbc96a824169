pub mod Sums
mod Totals
mod Hinted
mod Charges
mod BaseCounts
mod Once
mod Marks
mod Gaining
mod Copies
pub mod Sets
mod Silence
mod Filling
mod Unions
mod Slots
mod Summing
mod TreeSums
mod Amounts
mod Shares
mod Reserved
mod FileNeeds
mod WalkNeeds
mod TableNeeds
mod NeedSteps
mod WalkedRoots
