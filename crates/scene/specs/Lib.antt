pub mod Dirty
pub mod Entries
pub mod Holding
pub mod Keys
pub mod Marking
pub mod Picture
