pub mod Reading
pub mod Hexadecimal
pub mod Decimal
pub mod Blanks
pub mod Digits
