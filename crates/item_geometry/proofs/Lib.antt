mod Clips
mod Spans
mod Indices
pub mod Painted
pub mod Ordered
