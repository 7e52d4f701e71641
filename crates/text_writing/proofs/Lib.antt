pub mod WroteLaws
pub mod Decimal
