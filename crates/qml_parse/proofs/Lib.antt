pub mod Names
pub mod OneReading
pub mod Refusing
pub mod Spelling
pub mod Turns
