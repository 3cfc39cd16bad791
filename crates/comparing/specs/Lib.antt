pub mod Compared
pub mod Given
pub mod Facts
pub mod Runs
pub mod Search
