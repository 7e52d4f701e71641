pub mod GivenLaws
pub mod LineLaws
