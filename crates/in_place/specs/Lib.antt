pub mod InPlace
pub mod Day
