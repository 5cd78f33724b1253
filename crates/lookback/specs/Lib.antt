pub mod Past
pub mod StartUp
pub mod Banks
pub mod Bursts
pub mod Beats
pub mod Look
pub mod Trace
