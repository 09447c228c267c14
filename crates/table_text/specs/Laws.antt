-- What the calls below gave, and the text that follows.
pub mod Accepted
