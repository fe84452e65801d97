-- Laws of the definitions in specs/; the proofs of the functions stand in the folders beside them.
pub mod DigitLaws
pub mod OverLaws
pub mod WriteLaws
pub mod LineLaws
pub mod LinesLaws
pub mod ListLaws
pub mod AgreeLaws
pub mod RestLaws
pub mod ReaderLaws
pub mod PartLaws
pub mod PairLaws
pub mod Outcomes
