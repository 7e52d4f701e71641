pub mod RedoLaws
