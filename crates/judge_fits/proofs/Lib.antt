pub mod FillLaws
pub mod MemoryLaws
pub mod VerdictLaws
