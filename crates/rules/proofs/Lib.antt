-- Laws of the rule table, for its functions and for callers. The functions' own proofs stand in folders of their names.
pub mod RowFitsLaws
pub mod RowsLaws
pub mod FigureLaws
pub mod StretchesLaws
pub mod TableLaws
pub mod PassedLaws
pub mod RowFormulaLaws
pub mod Outcomes
pub mod FieldsLaws
