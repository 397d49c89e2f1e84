pub mod TrailerLaws
pub mod TrailerTold
pub mod CountLaws
pub mod FreshLaws
