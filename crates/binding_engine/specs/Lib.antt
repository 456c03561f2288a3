pub mod Equations
pub mod Standing
pub mod Ignored
pub mod Settling
pub mod Entries
pub mod Findings
pub mod Holding
pub mod Progress
