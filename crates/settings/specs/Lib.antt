pub mod Locators
pub mod Settings
pub mod Facts
