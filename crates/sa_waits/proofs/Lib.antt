-- Numbers: Numbers gone through in order.
pub mod Numbers
