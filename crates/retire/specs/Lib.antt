-- What the contracts of retire cite: what every column becomes, how much goes, what is new, and the whole outcome; Inside is of private
-- functions alone.
pub mod Rolled
pub mod Column
pub mod Going
pub mod New
pub mod Outcome
pub mod Promised
pub mod Inside
