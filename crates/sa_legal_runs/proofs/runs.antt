pub mod Opening
pub mod Homes
pub mod Ending
pub mod OnTheWay
pub mod LegalRuns
pub mod RightTraces
pub mod Instructions
