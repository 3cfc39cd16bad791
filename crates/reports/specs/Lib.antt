pub mod Report
pub mod Accepts
pub mod Reading
