-- What the proofs of program share.
pub mod Asks
