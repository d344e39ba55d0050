pub mod Script
pub mod Sums
