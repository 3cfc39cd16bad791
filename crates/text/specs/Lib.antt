pub mod Digest
pub mod Text
