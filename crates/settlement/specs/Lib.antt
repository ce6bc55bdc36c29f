pub mod Credit
pub mod Settle
pub mod Marks
pub mod LumpSum
pub mod Demand
pub mod Bounds
pub mod Six
