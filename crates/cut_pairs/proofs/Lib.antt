pub mod PlaceLaws
pub mod PairLaws
pub mod SetPairs
