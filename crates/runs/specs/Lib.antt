-- What a reader of runs gives, and the list of all runs in two lent columns.
pub mod Reader
pub mod Listed
