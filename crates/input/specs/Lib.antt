pub mod Format
pub mod Input
pub mod Recording
pub mod Section
