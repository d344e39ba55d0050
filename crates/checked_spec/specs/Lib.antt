pub mod Acts
pub mod Examples
