pub mod Word
pub mod Order
pub mod Cases
