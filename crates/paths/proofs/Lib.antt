-- The laws behind the proofs: Scan of the code's loops, Reports of lists of reports, Arrays of the table's arrays, Same of the table
-- against the record, Answers of calls on both, Rise of the record's sizes, Bound of a sender's Too Big answers, Heard of the
-- events that matter to it, Largest of the plateaus, PacketsLaws of M and the flag; Holds has what is claimed of the whole.
pub mod Calls
pub mod Events
pub mod Claim
pub mod Values
pub mod Scan
pub mod Reports
pub mod Arrays
pub mod Same
pub mod Answers
pub mod Rise
pub mod Bound
pub mod Heard
pub mod Largest
pub mod PacketsLaws
pub mod Holds
