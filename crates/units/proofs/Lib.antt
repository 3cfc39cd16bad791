mod Bits
mod Ranges
mod Words
pub mod Laws
pub mod Facts
pub mod Ranged
