pub mod Script
pub mod Answers
