pub mod Answer
pub mod Text
pub mod GivenText
pub mod Behind
