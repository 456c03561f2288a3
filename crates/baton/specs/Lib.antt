pub mod Sides
pub mod Moments
pub mod Rule
pub mod Steps
pub mod Law
