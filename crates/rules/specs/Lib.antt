-- What a reader must believe of the rule table, in the order in which to read it.
pub mod Limits
pub mod Rows
pub mod Stretches
pub mod Table
pub mod RowFormula
