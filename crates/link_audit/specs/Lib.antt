-- Recordings of sessions. A reader of the auditor's contract believes Records, Recorded, Verdicts and Vouching.
pub mod Records
pub mod Fronts
pub mod Recorded
pub mod Verdicts
pub mod Vouching
pub mod Auditing
