pub mod Text
pub mod Place
pub mod Printed
pub mod Cases
