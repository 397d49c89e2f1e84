pub mod PutLaws
pub mod DecLaws
