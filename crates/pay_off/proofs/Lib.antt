pub mod Costs
pub mod Contract
pub mod Laws
pub mod Settled
pub mod Complete
pub mod Clauses
pub mod Bounds
