pub mod Refusals
pub mod Calls
pub mod Packets
pub mod Queues
pub mod Held
pub mod Carriage
