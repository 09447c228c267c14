-- How the code meets the answer.
pub mod Inclusion
pub mod Read
