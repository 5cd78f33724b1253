pub mod Burst
pub mod Bus
pub mod Cases
