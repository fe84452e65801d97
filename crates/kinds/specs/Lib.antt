-- What a reader must believe of the kinds of rows.
pub mod Kinds
