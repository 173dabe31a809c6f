mod Clearings
mod Keeps
pub mod Parts
