-- What the contracts of `links` cite: the checks of a link table, in their order.
pub mod FirstChecks
pub mod Checks
pub mod Links
-- Its checks by their numbers, in order.
pub mod InOrder
-- What is true of them.
pub mod Laws
