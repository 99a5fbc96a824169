pub mod InMemory
pub mod Silence
