mod Shifts
pub mod Turns
pub mod Levels
pub mod Rounds
