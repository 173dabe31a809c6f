pub mod Memory
pub mod Polynomials
pub mod Words
pub mod Findings
pub mod Lent
pub mod Reductions
pub mod Store
pub mod Theorems
