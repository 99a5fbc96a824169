mod VolumeSums
mod Passed
mod Counting
mod Damaged
mod Answered
mod Lent
mod Caching
