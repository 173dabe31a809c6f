pub mod Makers
pub mod Window
