mod Standing
mod Moves
mod EachStep
