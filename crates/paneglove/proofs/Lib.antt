pub mod Payloads
pub mod Determined
