pub mod CodeLaws
pub mod RootLaws
