-- What the contracts of records cite.
pub mod Fields
pub mod Records
pub mod Heads
pub mod Puts
pub mod Writes
