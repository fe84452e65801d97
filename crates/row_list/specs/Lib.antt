-- What a reader must believe of lists of row numbers and of verdicts, in the order in which to read it.
pub mod RowList
pub mod Truths
pub mod Verdict
