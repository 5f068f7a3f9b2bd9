-- Laws that belong to no one function.
pub mod Right
pub mod Counted
pub mod Reading
pub mod Outcomes
pub mod Stores
pub mod Saves
pub mod Asks
