pub mod Asking
pub mod Ends
mod Spans
mod Pieces
mod LinesRead
pub mod Counting
