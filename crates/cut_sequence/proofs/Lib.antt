pub mod OrderLaws
pub mod SequenceLaws
