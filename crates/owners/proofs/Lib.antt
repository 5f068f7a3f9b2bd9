-- The laws of owners.
pub mod Minutes
pub mod Totals
pub mod Sets
pub mod Steps
pub mod Made
pub mod Scans
pub mod RecountRefusals
pub mod Entered
