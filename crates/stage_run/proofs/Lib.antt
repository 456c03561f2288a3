pub mod Endings
pub mod OneAnswer
pub mod Refusals
pub mod ScriptLemmas
pub mod Showing
pub mod Starting
pub mod WrittenFrames
