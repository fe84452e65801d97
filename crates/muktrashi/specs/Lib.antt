-- What the program's loop asks for, and what it comes to.
pub mod Loop
