pub mod Maps
pub mod Multiples
pub mod Queueing
pub mod Keeping
pub mod Firsts
