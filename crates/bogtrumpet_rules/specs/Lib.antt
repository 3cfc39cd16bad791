pub mod Answers
pub mod Headers
pub mod Given
pub mod Recordings
