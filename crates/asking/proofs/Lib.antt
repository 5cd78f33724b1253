pub mod Lowest
pub mod Events
pub mod Ladders
pub mod Moment
pub mod Spans
