-- What is promised of the program's text, in the order in which to read it. The proofs are in proofs/, under the same names.
pub mod Places
pub mod Cutting
pub mod Meaning
pub mod TextGoesOn
pub mod LineTimes
pub mod RowNumbers
pub mod WholeCase
