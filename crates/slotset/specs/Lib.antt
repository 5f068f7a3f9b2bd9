-- What the contracts of slotset cite: the slots of words, the searches and runs over them, the answers and lists that a caller gets;
-- Inside is of private functions alone.
pub mod Slots
pub mod Search
pub mod Runs
pub mod Answers
pub mod Lists
pub mod Inside
