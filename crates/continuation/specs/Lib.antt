pub mod Calls
pub mod Filling
pub mod Theorems
