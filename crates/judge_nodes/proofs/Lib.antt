pub mod ChildrenLaws
pub mod NodeLaws
