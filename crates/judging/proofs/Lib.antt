pub mod Powers
pub mod Forms
pub mod Judges
