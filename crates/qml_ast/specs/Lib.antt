pub mod Arithmetic
pub mod Equality
pub mod TextForm
pub mod Alike
