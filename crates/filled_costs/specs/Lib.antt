-- What the proofs cite.
pub mod Laws
