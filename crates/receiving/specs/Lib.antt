pub mod Receive
pub mod Collect
pub mod Stages
pub mod Facts
pub mod Admitted
pub mod CollectFacts
