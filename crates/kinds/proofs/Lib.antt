-- Laws of the table of kinds, for its functions and for callers.
pub mod KindsLaws
pub mod Outcomes
