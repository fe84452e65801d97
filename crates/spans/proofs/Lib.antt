-- Laws of spans in their words, for the functions here and for callers. The functions' own proofs stand in folders of their names.
pub mod WordsLaws
pub mod RoundLaws
pub mod LayoutLaws
pub mod ClipLaws
pub mod JoinLaws
pub mod CoverLaws
pub mod UpdateLaws
pub mod ReachedLaws
pub mod Outcomes
