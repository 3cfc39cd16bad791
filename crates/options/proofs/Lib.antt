-- What the proofs of several functions use, and the laws that callers cite.
pub mod Sizes
pub mod Steps
pub mod Walks
pub mod Whole
pub mod PutOff
pub mod Least
pub mod Facts
pub mod Told
pub mod Each
