-- What the contracts of slots cite.
pub mod Lent
pub mod Ranges
pub mod Merged
pub mod Atomic
pub mod Availability
pub mod Freeze
pub mod Inside
