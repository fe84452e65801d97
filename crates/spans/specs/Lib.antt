-- What a reader must believe of spans in their words, in the order in which to read it.
pub mod Layout
pub mod Reached
pub mod Stretch
pub mod Ring
