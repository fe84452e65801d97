-- What a reader must believe of the program's text is `Replies` and `Transcript`: they say what is right. The contracts cite the rest, which says how
-- it is come by while the text arrives; that the two agree is proved in the crate text_promises.
pub mod Replies
pub mod Transcript
pub mod Reply
pub mod Held
pub mod Turn
pub mod Feed
pub mod Course
