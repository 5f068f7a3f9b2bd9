-- What the contracts of usable cite.
pub mod Rules
pub mod Broken
pub mod Answers
pub mod Inside
