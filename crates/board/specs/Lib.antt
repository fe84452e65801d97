-- What a reader must believe of the entry for C, in the order in which to read it.
pub mod Version
pub mod Left
pub mod Numbers
