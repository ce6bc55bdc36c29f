pub mod PaidRun
mod Eight
pub mod Bits
