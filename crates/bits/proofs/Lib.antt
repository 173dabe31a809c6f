pub mod Operations
pub mod Loops
pub mod Splitting
