-- The proofs of published and draft: Parts, the part that a slot has; Walk, the owners read, published and shown part by part.
pub mod Parts
pub mod Walk
