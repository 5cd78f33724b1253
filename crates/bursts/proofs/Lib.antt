pub mod AutoPrecharge
pub mod First
pub mod Four
pub mod HasBeat
pub mod Latest
pub mod Room
pub mod Running
pub mod Untouched
