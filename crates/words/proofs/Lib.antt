mod Same
mod Steps
pub mod Words
