pub mod Numbering
pub mod Columns
pub mod Lines
pub mod Cutting
pub mod Judging
pub mod Pages
pub mod Standing
