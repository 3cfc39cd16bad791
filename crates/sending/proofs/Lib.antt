pub mod Cases
pub mod Judged
pub mod WrapsLaws
pub mod ExactlyLaws
pub mod Seen
pub mod Leaves
