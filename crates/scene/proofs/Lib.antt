mod Lists
mod Cells
mod Maps
mod Storing
mod Held
