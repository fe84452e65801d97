-- Laws of the entry for C; each function's proof stands in the folder of its name.
pub mod RefusedLaws
pub mod Outcomes
