pub mod Bodies
pub mod Forest
pub mod Numbers
pub mod Stored
