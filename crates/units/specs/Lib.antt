pub mod Held
pub mod Facts
