pub mod Assigning
pub mod Calls
pub mod Endings
pub mod Events
pub mod Jobs
pub mod Noting
pub mod Running
pub mod Values
