-- The laws of replay.
pub mod Heads
pub mod Records
pub mod Listed
pub mod Columns
pub mod Windows
pub mod JobEnds
pub mod Fits
pub mod Streams
pub mod Stages
pub mod Recordings
pub mod Ruled
