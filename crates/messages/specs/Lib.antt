pub mod Icmp
pub mod Sealed
pub mod Facts
