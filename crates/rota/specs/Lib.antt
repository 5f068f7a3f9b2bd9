-- What the contracts of rota cite.
pub mod Board
pub mod Moves
pub mod Plays
pub mod Acts
pub mod Ready
pub mod Lent
pub mod Stepped
pub mod Entries
pub mod Draws
pub mod Begins
pub mod Replays
