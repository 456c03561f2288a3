pub mod Painting
pub mod Reach
pub mod Shapes
