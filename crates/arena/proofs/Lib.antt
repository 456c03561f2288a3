pub mod Arenas
pub mod Slots
pub mod Back
