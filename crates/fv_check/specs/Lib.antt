pub mod Judged
pub mod Lending
