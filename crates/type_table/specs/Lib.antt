pub mod Names
pub mod Slots
pub mod Order
pub mod ItemSlots
