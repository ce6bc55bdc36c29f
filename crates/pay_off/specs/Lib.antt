pub mod Cost
pub mod PayOff
pub mod Clauses
pub mod Bounds
pub mod LumpSumsNow
