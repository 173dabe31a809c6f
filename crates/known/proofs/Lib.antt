pub mod Tests
pub mod Finite
pub mod Entries
pub mod Table
