pub mod Positive
pub mod Entries
pub mod Tables
pub mod Monthly
pub mod Passing
pub mod LumpSum
pub mod Laws
pub mod Lookups
