pub mod Refined
