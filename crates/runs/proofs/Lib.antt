-- The proofs of a reader of runs: Readers, a reader taken apart; Listing, the columns of all runs.
pub mod Listing
pub mod Readers
