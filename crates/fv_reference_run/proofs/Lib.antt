mod Endings
mod Answered
mod Stepped
mod Told
mod Phrases
mod Allowed
