-- It is what its definition's words say, and nothing else is.
pub mod FarEnd
