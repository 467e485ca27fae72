mod Among
mod Appended
