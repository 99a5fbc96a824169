mod Written
mod Clear
pub mod ReadsBack
