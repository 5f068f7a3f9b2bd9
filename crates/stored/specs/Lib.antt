-- What the contracts of stored cite.
pub mod Numbers
pub mod Columns
