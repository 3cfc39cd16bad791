pub mod SealedLaws
pub mod EnclosedLaws
pub mod WriterLaws
pub mod Right
pub mod Examples
pub mod Facts
