pub mod Parts
pub mod Tests
pub mod AnyLaws
pub mod Decides
pub mod First
pub mod PartTests
pub mod Walks
pub mod Chains
