mod Assigned
mod Begun
mod Each
mod Firsts
mod Following
mod Rooms
mod Turns
