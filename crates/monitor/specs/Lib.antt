-- What a reader must believe of the monitor, in the order in which to read it. `Core` is the crate's own: no public contract cites it.
pub mod Start
pub mod Event
pub mod Step
pub mod Core
