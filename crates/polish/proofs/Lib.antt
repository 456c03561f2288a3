mod Queues
mod Steps
