pub mod Places
pub mod Adding
pub mod Inverting
pub mod Splitting
pub mod Filling
pub mod Modulo
