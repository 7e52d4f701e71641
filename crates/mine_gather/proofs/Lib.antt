pub mod PlaceLaws
pub mod GatherLaws
pub mod SameLaws
pub mod FoundLaws
pub mod BlockLaws
