-- What the proofs of several functions use, and the laws that callers cite.
pub mod Stages
pub mod InPlace
pub mod Embeds
pub mod Facts
pub mod Delivered
pub mod Cases
pub mod Calls
pub mod Collected
