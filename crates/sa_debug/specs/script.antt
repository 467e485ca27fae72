-- The script of a session, and its replies, as texts.
pub mod Words
pub mod Fields
pub mod Line
pub mod Reading
pub mod Text
pub mod TextLaws
pub mod Reply
