-- What the calls leave in arrays of zeros.
pub mod Read
