pub mod Bits
pub mod Options
pub mod Advertisement
pub mod OptionFacts
pub mod Fits
pub mod Facts
