mod Ran
mod Seats
