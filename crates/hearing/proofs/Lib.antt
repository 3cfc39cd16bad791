pub mod MessageLaws
pub mod Stages
pub mod Laws
pub mod SolicitationLaws
mod Examples
pub mod ReadBack
