pub mod Message
pub mod Heard
pub mod Solicitation
pub mod Facts
