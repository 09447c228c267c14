pub mod Outcomes
pub mod ReadBack
pub mod WriteBack
