-- The laws of units.
pub mod Units
pub mod Answers
pub mod Collect
pub mod Begins
pub mod Rising
pub mod Covered
pub mod Longest
pub mod Sets
pub mod MaskBits
pub mod Striking
pub mod Reach
pub mod Means
