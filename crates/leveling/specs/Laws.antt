-- Tests of all numbers below a bound, and the condition image by image.
pub mod Below
