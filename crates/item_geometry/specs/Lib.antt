pub mod Span
pub mod Clip
pub mod Rectangle
pub mod PaintOrder
