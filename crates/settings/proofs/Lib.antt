-- Facts has the laws that callers cite; Pairs and Twice are for searches.
pub mod Facts
mod Pairs
mod Twice
