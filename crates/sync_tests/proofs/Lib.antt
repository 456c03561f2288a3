mod Maps
mod Staging
mod Growing
mod Pruning
