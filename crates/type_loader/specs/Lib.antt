pub mod Naming
pub mod Sources
pub mod Entries
pub mod Faults
pub mod Cycles
pub mod Order
pub mod Units
pub mod Loads
