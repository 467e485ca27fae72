mod Batches
mod Waiting
