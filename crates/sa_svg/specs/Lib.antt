pub mod Markup
pub mod Layout
pub mod Words
pub mod Titles
pub mod Head
pub mod Drawing
pub mod Laws
