pub mod ReadBack
pub mod WriteBack
