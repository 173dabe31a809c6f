pub mod Modulo
pub mod Laws
