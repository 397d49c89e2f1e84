pub mod Bytes
pub mod Slots
