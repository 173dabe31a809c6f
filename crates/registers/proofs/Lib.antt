pub mod Continuing
pub mod Making
pub mod Repeating
