pub mod Record
pub mod CarriedOut
