-- What is promised of the entry for C, in the order in which to read it; then of a run. The proofs are in proofs/, under the same names.
pub mod Made
pub mod Starting
pub mod Calls
pub mod Meaning
pub mod Refusing
pub mod Runs
