pub mod Clear
pub mod TakeIn
pub mod Move
pub mod ReadPayload
