-- The laws of pieces. Joining states what is claimed over lists of steps. Of pieces: Cut of a cutting, Apart of two of its pieces, Content
-- of one place, Come of those that have come. Of steps: Keys, Live and Kept of places, Others of other keys, Collecting and Join of the
-- key's own. Holds proves that pieces join, Planned and Changes what each answer changes, Example that the premises can be met. Of plain
-- facts: Facts of the tests, Marks of units, Planning and Exactly of plans and numbers; Tells, ByPieces, History and ByHistory of the
-- pieces that were taken.
pub mod Joining
pub mod Cut
pub mod Apart
pub mod Content
pub mod Come
pub mod Keys
pub mod Live
pub mod Kept
pub mod Others
pub mod Collecting
pub mod Join
pub mod Holds
pub mod Planned
pub mod Changes
pub mod Example
pub mod Facts
pub mod Marks
pub mod Planning
pub mod Exactly
pub mod Tells
pub mod ByPieces
pub mod History
pub mod ByHistory
pub mod Found
pub mod Judged
pub mod Carried
