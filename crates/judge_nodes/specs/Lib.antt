pub mod Children
pub mod Nodes
