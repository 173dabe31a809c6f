pub mod Histories
pub mod Main
pub mod Rooms
pub mod Prefixes
