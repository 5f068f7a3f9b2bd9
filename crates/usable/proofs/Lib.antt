-- The laws of usable.
pub mod ShiftLaws
pub mod Rested
pub mod Walks
pub mod Judged
pub mod Meaning
