pub mod Shorts
pub mod Answers
pub mod Moment
