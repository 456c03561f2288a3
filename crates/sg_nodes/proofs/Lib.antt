mod Slots
mod Placing
mod Chained
mod Growing
mod Forests
mod Keeping
pub mod Callers
