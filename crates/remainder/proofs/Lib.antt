mod Judges
mod Steps
pub mod Tells
