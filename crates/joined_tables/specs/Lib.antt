-- What the contracts of `joined_tables` cite: the tables of a batch, their stored forms joined, and when they fit.
pub mod Tables
pub mod Bytes
pub mod Fitting
-- What is true of them.
pub mod Laws
