-- What a reader must believe of codes.
pub mod Code
