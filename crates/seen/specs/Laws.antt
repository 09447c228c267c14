-- A tree merged into the entries from the back.
pub mod Columns
pub mod Back
pub mod Halves
pub mod Placing
pub mod Last
pub mod Asked
pub mod Ended
-- What a tree more does to the far sides seen.
pub mod Tally
pub mod WholeTree
pub mod OneMore
pub mod HowMany
pub mod Which
pub mod Sizes
