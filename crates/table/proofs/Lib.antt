pub mod RefusalLaws
pub mod CallLaws
pub mod PacketLaws
pub mod QueueLaws
pub mod CarriageLaws
pub mod RoomLaws
pub mod Searched
