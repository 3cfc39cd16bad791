-- What the proofs of several functions use, and the laws that callers cite.
pub mod Laws
pub mod Numbers
pub mod Bytes
pub mod Facts
