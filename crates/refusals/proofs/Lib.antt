-- Laws of the list of refusals, for its functions and for callers.
pub mod Outcomes
