pub mod Two
pub mod Bits
pub mod Laws
