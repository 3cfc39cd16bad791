-- What the proofs of several functions use, and the laws that callers cite.
pub mod FairCalls
pub mod Rows
pub mod Laws
pub mod Live
pub mod Earliest
pub mod Due
pub mod Fairness
pub mod Facts
mod Chains
