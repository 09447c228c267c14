pub mod Lengths
pub mod Turns
-- Digits and pieces, how long they can be, and that they have no zero byte.
pub mod Numbers
pub mod Zeros
