-- Of what the Newick writer has left.
pub mod Written
-- Of what the exact reading has left.
pub mod Read
