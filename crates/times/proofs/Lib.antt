-- Laws of masks, and of what is answered.
pub mod MaskLaws
pub mod Outcomes
