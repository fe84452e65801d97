-- What a reader must believe of lines, in the order in which to read it.
pub mod Digits
pub mod Line
pub mod Lines
pub mod Read
pub mod Frame
pub mod ListLine
pub mod Rule
pub mod Reader
