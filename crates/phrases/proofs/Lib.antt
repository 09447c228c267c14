-- What is said of the refusal whose row decides it.
pub mod ByPlace
