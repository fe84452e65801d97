-- The proofs of what is promised of the entry for C, under the names of specs/, and the law on numbers that they share.
pub mod NumberLaws
pub mod Starting
pub mod Calls
pub mod Meaning
pub mod Refusing
pub mod Runs
