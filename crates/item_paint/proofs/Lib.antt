mod Slots
mod Walked
