pub mod EmptyTold
pub mod EmptySound
pub mod EmptyMachine
