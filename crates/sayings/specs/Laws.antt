-- What is said passes the tests of the list, how long it can be, that it has no zero byte, and that it tells the refusal.
pub mod Said
pub mod Lengths
pub mod Zeros
pub mod Parted
pub mod Phrases
