-- The lower of two places, and a row stored.
pub mod Lower
pub mod Storing
