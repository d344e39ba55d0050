pub mod Laying
pub mod Shapes
pub mod Examples
pub mod Promised
