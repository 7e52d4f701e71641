pub mod Reverse
