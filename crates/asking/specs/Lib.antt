pub mod Ask
pub mod Facts
