mod Times
mod Appended
