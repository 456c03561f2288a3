pub mod Places
mod Pools
mod Rings
mod Counts
mod Freeing
mod Linking
mod Walking
mod Neighbours
mod Relinking
mod Putting
mod Taking
mod Ending
mod Moves
mod Numbers
mod Calls
pub mod Lists
