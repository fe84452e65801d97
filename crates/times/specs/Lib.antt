-- What a reader must believe of times in code, in the order in which to read it.
pub mod Times
pub mod FrameTime
