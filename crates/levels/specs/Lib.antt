pub mod Levels
pub mod Rounds
