mod Areas
mod Confined
pub mod Levels
