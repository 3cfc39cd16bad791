pub mod Any
pub mod Parts
pub mod Walks
