-- The rows of the reading, and those over one image more.
pub mod Growing
pub mod Held
pub mod Rowed
pub mod Grown
