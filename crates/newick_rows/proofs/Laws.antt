pub mod Below
pub mod Chains
