pub mod Laws
pub mod Marks
pub mod Purchases
pub mod Demand
pub mod LumpSum
pub mod Bounds
