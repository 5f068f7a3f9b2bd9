-- Laws that belong to no one function.
pub mod Numbers
pub mod Walks
pub mod Laid
pub mod Sequences
pub mod Mixed
pub mod Puts
pub mod Writes
