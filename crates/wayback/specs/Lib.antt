-- What the contracts of wayback cite.
pub mod Back
pub mod Answers
pub mod Inside
