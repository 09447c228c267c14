-- Images and groups one by one, and how long lines can be.
pub mod Groups
pub mod Digits
pub mod Lengths
-- Of what the reading of levels has left.
pub mod Left
