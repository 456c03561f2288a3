pub mod Unrun
