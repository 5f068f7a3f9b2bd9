-- The laws of retire.
pub mod Rolls
pub mod Bits
pub mod Figured
pub mod News
pub mod Asks
pub mod Moved
pub mod Passes
pub mod Retires
pub mod Promises
pub mod Follows
