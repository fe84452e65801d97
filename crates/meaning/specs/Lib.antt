-- What a reader must believe of the meaning of a rule, in the order in which to read it.
pub mod Interval
pub mod History
pub mod Formula
pub mod Numbered
pub mod Computed
pub mod Heartbeat
pub mod Spans
pub mod Runs
pub mod Sound
pub mod Figure
pub mod FrameTime
pub mod Numbers
