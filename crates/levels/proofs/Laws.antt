-- When the call is accepted, and its two ways out.
pub mod Asked
-- With the three-point condition groups are balls: the entry is the height of the smallest group, and there are at most n - 1.
pub mod Balls
pub mod Clear
pub mod Count
pub mod Groups
-- How the code finds them and stores them.
pub mod Levels
pub mod LinkCosts
pub mod Links
pub mod Listed
pub mod Members
pub mod Next
pub mod NextGroups
pub mod OneMore
pub mod Smallest
pub mod Storing
pub mod Written
