pub mod Written
pub mod Beside
pub mod Operands
pub mod Quotients
pub mod Closed
pub mod Listed
pub mod Roots
