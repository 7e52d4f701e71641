pub mod ListLaws
pub mod PassLaws
pub mod CodesLaws
