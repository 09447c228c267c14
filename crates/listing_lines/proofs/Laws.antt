pub mod Turns
-- What a line says can be read off it.
pub mod Once
