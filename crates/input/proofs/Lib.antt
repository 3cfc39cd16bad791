pub mod Laws
pub mod ReadBack
pub mod Records
pub mod Values
pub mod WrittenOut
