pub mod AcceptLaws
pub mod JudgeLaws
pub mod OneAnswer
