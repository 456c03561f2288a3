pub mod Chains
pub mod Cells
pub mod Slots
pub mod Packed
pub mod Inverse
pub mod Free
