mod Simple
mod Comes
mod Builders
mod Named
