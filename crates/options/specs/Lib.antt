pub mod Options
pub mod Lifetimes
pub mod SoFar
pub mod Facts
