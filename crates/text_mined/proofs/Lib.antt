pub mod MinedLaws
