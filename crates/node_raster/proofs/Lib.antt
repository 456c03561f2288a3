mod Places
mod Deeper
mod Depth
mod Alike
mod Shallow
mod Siblings
mod Walked
mod Whole
