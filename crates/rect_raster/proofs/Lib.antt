mod Clipping
pub mod Drawing
mod Filling
mod Rows
mod Writing
