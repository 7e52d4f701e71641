pub mod EdgeLaws
pub mod TableLaws
