pub mod Own
pub mod Linking
pub mod Dressing
pub mod Swapping
pub mod Counting
