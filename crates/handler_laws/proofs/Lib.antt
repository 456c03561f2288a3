pub mod Held
mod Kept
