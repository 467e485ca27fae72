pub mod Program
pub mod Local
pub mod Asked
pub mod Values
pub mod Requests
pub mod Texts
pub mod Said
