-- Laws that belong to no one function.
pub mod ReachedLaws
pub mod MarksLaws
pub mod SweepLaws
