pub mod Life
pub mod DrivenFits
pub mod Laws
