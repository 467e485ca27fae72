pub mod Order
pub mod Answer
pub mod Search
pub mod Results
