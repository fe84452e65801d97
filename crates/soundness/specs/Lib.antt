-- What a reader must believe of the record and of what is asked before a call, in the order in which to read it.
pub mod Record
pub mod Soundness
pub mod Setup
pub mod Ready
pub mod Fit
