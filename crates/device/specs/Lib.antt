pub mod InPlace
pub mod Engine
