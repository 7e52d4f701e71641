pub mod CallLaws
pub mod Written
pub mod Joined
pub mod Heartbeats
