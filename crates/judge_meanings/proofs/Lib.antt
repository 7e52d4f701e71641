pub mod SliceLaws
pub mod KeepLaws
pub mod MeansLaws
pub mod LoopMeans
pub mod LanguageLaws
