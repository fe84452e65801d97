-- What a reader must believe of dead rows, in the order in which to read it.
pub mod Reached
pub mod DeadRows
pub mod Marks
