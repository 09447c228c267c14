pub mod Left
pub mod One
pub mod Taking
