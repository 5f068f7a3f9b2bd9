-- What the contracts of mend cite.
pub mod Mended
pub mod Repairs
pub mod Answers
pub mod Inside
