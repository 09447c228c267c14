-- One table more.
pub mod Pairs
pub mod Tables
