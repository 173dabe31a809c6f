pub mod Turns
pub mod Judged
pub mod Foretells
