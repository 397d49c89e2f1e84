pub mod Parts
pub mod Numbers
pub mod SlotLaws
pub mod CopyLaws
pub mod ZeroLaws
pub mod ByteLaws
pub mod NumberLaws
