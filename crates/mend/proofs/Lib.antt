-- The laws of mend.
pub mod Cleared
pub mod Kept
pub mod ListLaws
pub mod Made
pub mod Ending
pub mod Told
pub mod Meaning
