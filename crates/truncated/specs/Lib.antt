pub mod Remainders
pub mod Polynomials
pub mod Laws
pub mod Operations
