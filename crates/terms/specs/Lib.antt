pub mod Rate
pub mod Rules
pub mod Printed
pub mod RefusalParts
