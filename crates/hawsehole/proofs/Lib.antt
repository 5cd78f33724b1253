pub mod Whole
pub mod Demand3
pub mod InTime
pub mod Calls
pub mod Walk
pub mod OneAnswer
pub mod Monitored
pub mod MonitorCalls
