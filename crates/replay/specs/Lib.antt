-- What the contracts of replay cite.
pub mod Reading
pub mod Listed
pub mod Stage
pub mod Text
pub mod Runs
pub mod Rule
