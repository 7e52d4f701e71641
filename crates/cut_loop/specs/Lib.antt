pub mod Roomed
