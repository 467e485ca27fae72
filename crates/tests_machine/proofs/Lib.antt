mod PlainLemmas
mod Seats
