pub mod BondLaws
pub mod JoinLaws
pub mod SweepLaws
