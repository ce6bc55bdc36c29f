pub mod Refusal
pub mod Examine
