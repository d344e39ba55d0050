pub mod DigitValues
pub mod DecimalTexts
pub mod Promised
