pub mod Record
pub mod Selected
pub mod CarriedOut
