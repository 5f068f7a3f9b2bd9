-- What the contracts of store cite.
pub mod Layout
pub mod Figures
pub mod Outcome
pub mod Inside
