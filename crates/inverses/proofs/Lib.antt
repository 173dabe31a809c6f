pub mod Bases
pub mod Rule
