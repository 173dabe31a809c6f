pub mod Quotients
pub mod Scalings
