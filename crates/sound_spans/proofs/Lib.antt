-- Laws of sound stretches, for the functions here and for callers.
pub mod SoundSteps
pub mod SoundTold
pub mod StretchKept
