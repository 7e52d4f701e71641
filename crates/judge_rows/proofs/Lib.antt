pub mod RunLaws
pub mod TableLaws
pub mod CutLaws
