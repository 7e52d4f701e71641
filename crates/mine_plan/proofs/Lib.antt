pub mod AloneLaws
pub mod PlanLaws
pub mod PlannedLaws
