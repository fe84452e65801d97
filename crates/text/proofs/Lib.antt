-- The laws of the program's text.
pub mod WroteLaws
pub mod TurnLaws
pub mod FeedLaws
pub mod ShortLaws
pub mod CourseLaws
pub mod Outcomes
