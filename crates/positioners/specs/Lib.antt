pub mod Axis
pub mod Layout
