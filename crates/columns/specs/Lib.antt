-- What the contracts of columns cite: the row of tests, the part that a slot has, and what publishing and the list screen make.
pub mod Parts
pub mod Publishing
pub mod Inside
