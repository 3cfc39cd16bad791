pub mod Routers
pub mod Facts
