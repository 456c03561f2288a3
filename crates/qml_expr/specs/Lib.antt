pub mod Seen
pub mod Readings
pub mod Precedences
pub mod Lists
