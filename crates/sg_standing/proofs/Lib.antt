mod Laws
mod Changing
