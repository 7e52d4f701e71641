pub mod Sublogs
