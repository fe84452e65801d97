-- The laws of the definitions in specs/, in the order in which they build on each other.
pub mod Truths
pub mod OneValue
pub mod Tells
pub mod FormulaLaws
pub mod NumberedLaws
pub mod HistoryLaws
pub mod SpansLaws
pub mod SoundLaws
pub mod RunsLaws
pub mod FigureLaws
pub mod SoundKept
pub mod FrameTimeLaws
pub mod NumbersRight
