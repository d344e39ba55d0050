pub mod Outcomes
pub mod Promised
