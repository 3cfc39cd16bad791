pub mod Places
pub mod Take
pub mod Facts
pub mod Exactly
pub mod History
pub mod ByHistory
pub mod Change
