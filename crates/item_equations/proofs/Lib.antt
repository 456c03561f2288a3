pub mod Walks
pub mod Chosen
pub mod Folds
pub mod Growing
pub mod Answered
