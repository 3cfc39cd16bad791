-- What the contracts of `paths` cite, and what is claimed of the whole.
pub mod Packets
pub mod Candidate
pub mod Kept
pub mod Table
pub mod Record
pub mod Sender
pub mod Largest
pub mod Search
pub mod Look
