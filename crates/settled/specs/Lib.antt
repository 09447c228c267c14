-- The settled examples of document 01: what an example says, the list of them, and that each is so.
pub mod Triangles
pub mod Settled
pub mod Examples
pub mod Claim
