pub mod BitLaws
pub mod AnyLaws
pub mod CountLaws
pub mod LowestLaws
pub mod ListedLaws
pub mod HeadLaws
