-- One image more is named.
pub mod Marks
