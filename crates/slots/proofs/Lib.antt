-- The laws of slots.
pub mod LentLaws
pub mod Entries
pub mod Keys
pub mod Packed
pub mod Merging
pub mod RangeLaws
pub mod Sorting
pub mod WalkLaws
pub mod FreezeLaws
pub mod MergedLaws
pub mod CutMinutes
pub mod CutLaws
pub mod AtomLaws
pub mod AvailLaws
pub mod EdgeLaws
pub mod SplitLaws
pub mod Meaning
