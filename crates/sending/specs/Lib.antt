pub mod Plan
pub mod Sending
pub mod Wraps
pub mod Exactly
