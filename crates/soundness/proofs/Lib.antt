-- Laws that belong to no one function.
pub mod ReadyLaws
pub mod SoundnessLaws
pub mod PastLaws
pub mod Outcomes
