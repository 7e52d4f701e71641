pub mod TrailLaws
pub mod TurnLaws
