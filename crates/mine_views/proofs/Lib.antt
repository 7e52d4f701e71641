pub mod SetLaws
pub mod WalkLaws
pub mod PartLaws
pub mod PieceLaws
pub mod TightLaws
pub mod OperatorLaws
pub mod HeartbeatLaws
