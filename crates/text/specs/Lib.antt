pub mod Dec
pub mod Put
pub mod Text
