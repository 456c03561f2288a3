pub mod Joins
pub mod Statements
