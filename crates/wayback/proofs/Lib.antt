-- The laws of wayback.
pub mod SwapAgain
pub mod Returns
pub mod Searched
pub mod Written
pub mod Leading
