pub mod EpisodeLaws
pub mod BlockWise
pub mod JoinedLogs
