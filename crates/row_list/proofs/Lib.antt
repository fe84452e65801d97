-- What follows for truths as bytes and for verdicts.
pub mod TruthsLaws
pub mod VerdictLaws
