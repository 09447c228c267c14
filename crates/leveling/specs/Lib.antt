-- What a reader must believe: document 02's condition of levels.
pub mod ThreePoint
-- What the contracts of `leveling` cite: refusal 21, its scan, and the quick way past it.
pub mod Check
pub mod Scan
pub mod Below
pub mod Joins
-- Its check by its number.
pub mod InOrder
-- What refusal 21 is worth, and examples.
pub mod Promises
pub mod Examples
-- What is true of it.
pub mod Laws
