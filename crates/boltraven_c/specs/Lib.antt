-- What the contracts of boltraven_c cite: answers as numbers.
pub mod Mends
pub mod Numbers
pub mod Units
pub mod Columns
pub mod Rota
pub mod Replay
pub mod Store
pub mod Usable
pub mod Ways
pub mod Retiring
