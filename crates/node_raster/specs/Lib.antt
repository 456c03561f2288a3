pub mod Nodes
pub mod Drawn
