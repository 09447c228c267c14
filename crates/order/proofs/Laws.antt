-- When the call is accepted, and images counted from 1 and from 0.
pub mod Asked
