pub mod Laws
pub mod Lengths
pub mod LineLaws
pub mod Values
