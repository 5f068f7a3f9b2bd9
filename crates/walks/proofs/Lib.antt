-- What walks share. Contexts: entries moved about. Parts: tokens and what is owned, entry by entry. Locals: a function's locals. Calls: a
-- call, and what the callee said. Slices: a `&mut` slice's pointer and length made anew. Loans: slices lent on that come back. Arrays: a
-- local array lent. Entries: from a walk to the statement.
pub mod Contexts
pub mod Parts
pub mod Locals
pub mod Calls
pub mod Slices
pub mod Loans
pub mod Arrays
pub mod Entries
