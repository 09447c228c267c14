-- From the grafted rows to the outcome of the exact reading.
pub mod Answer
