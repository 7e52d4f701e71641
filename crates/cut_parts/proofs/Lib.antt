pub mod SetLaws
pub mod InsertLaws
pub mod RemainingLaws
pub mod RetainLaws
