pub mod LabelLaws
pub mod EntryLaws
