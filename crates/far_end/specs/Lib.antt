-- What the far end is, and examples that antt computes.
pub mod FarEnd
