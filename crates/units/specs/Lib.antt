-- What the contracts of units cite.
pub mod Units
pub mod Settings
pub mod Answers
pub mod Dates
pub mod Starts
pub mod Days
pub mod Domains
pub mod Achievable
pub mod Inside
