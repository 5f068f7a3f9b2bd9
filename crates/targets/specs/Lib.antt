-- What the contracts of targets cite: a person's figures and standing, the passes, the remainder, and the whole outcome of a call.
pub mod Figures
pub mod Passes
pub mod Remainder
pub mod SecondEdition
pub mod Levels
pub mod Outcome
pub mod Inside
