-- Laws that belong to no one function. Crates above cite these and the definitions of specs/, and open no word.
pub mod Words
pub mod Scans
pub mod Skips
pub mod Counts
pub mod Puts
pub mod Meaning
pub mod Refusals
pub mod Runs
pub mod Columns
pub mod Members
pub mod OneSlot
