-- What its checks say.
pub mod Accepted
