pub mod Laws
pub mod AcceptsLaws
pub mod ReadingLaws
