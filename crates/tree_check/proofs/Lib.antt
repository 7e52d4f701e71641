pub mod RuleLaws
pub mod CheckingLaws
pub mod SealLaws
pub mod Accepted
