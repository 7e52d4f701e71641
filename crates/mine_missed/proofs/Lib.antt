pub mod MissedLaws
pub mod WalkLaws
