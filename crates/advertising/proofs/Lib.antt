-- The laws that callers cite.
pub mod Laws
mod Examples
