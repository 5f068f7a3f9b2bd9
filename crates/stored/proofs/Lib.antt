-- The laws of stored.
pub mod Columns
