-- What a reader must believe of a sound stretch.
pub mod StretchSound
pub mod Ring
