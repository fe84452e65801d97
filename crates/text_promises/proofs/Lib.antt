-- The proofs of what is promised of the program's text, under the names of specs/, and the laws that they share.
pub mod Places
pub mod HeldLaws
pub mod OwedLaws
pub mod Cutting
pub mod Meaning
pub mod JoinedLaws
pub mod TextGoesOn
pub mod LineTimes
pub mod RowNumbers
pub mod WholeCase
