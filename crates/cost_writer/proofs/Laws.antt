-- When it is accepted, and what was read written again.
pub mod Accepted
pub mod Again
