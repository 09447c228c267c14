pub mod Chain
pub mod Ends
pub mod Places
