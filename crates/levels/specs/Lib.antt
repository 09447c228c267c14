-- What a reader must believe: document 02's definition of a group, and its height.
pub mod GroupTest
pub mod Groups
-- The two sides of a link, and what stands on them.
pub mod Sides
-- What the call answers and leaves behind.
pub mod Outcome
-- What the contracts below it cite: how the groups are found and stored.
pub mod Balls
pub mod Next
pub mod Putting
-- What the promise is worth, what the exact tree of such a table looks like, and settled examples.
pub mod Links
pub mod Reading
pub mod Examples
-- Its checks by their numbers, in order.
pub mod InOrder
-- What is true of it.
pub mod Laws
