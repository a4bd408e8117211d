pub mod Pairs
pub mod Sieve
