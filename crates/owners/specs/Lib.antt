-- What the contracts of owners cite.
pub mod Derived
pub mod Recount
pub mod Entries
pub mod Inside
