pub mod DigitLaws
pub mod Laws
