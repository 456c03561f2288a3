pub mod Timer
pub mod Schedule
pub mod Queue
pub mod Sound
