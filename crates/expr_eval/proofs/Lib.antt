pub mod Bodies
pub mod Cuts
pub mod Follows
pub mod Named
pub mod Stops
