pub mod Arena
pub mod Slots
pub mod Lends
