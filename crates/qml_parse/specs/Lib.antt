pub mod Values
pub mod Followers
pub mod Parsed
