pub mod Advertise
pub mod Facts
