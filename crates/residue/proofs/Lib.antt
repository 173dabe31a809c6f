pub mod Binary
pub mod Units
pub mod Powers
