pub mod Held
pub mod Turns
pub mod Obeying
pub mod Parts
