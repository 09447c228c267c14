-- The index over one image more.
pub mod Grown
