pub mod Items
pub mod RectangleSlots
