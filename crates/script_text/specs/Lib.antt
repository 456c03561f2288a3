pub mod LoadFaults
pub mod Notes
