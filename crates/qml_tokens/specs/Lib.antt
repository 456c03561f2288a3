pub mod Spelled
pub mod Marks
pub mod Within
pub mod Laws
