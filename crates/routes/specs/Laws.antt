-- When the calls are accepted.
pub mod Accepted
-- Which rows contain which, and which hold an image.
pub mod Containing
pub mod Holding
