pub mod Address
pub mod Quads
pub mod Prefixes
pub mod Facts
