pub mod Division
pub mod HalfUp
pub mod HalfEven
pub mod Halves
pub mod InForce
pub mod Laws
