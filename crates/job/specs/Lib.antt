-- What the contracts of job cite.
pub mod File
pub mod Columns
pub mod Listing
pub mod Digits
pub mod Stages
pub mod Outcome
pub mod Shown
pub mod Begun
pub mod Inside
