-- Laws of a run; each function's proof stands in the folder of its name.
pub mod RunLaws
pub mod Outcomes
