-- Laws of codes.
pub mod CodeLaws
