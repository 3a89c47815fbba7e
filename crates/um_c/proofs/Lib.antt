mod Calls
mod Rows
mod DataLinkCalls
mod OneLink
mod Sessions
mod DataLinkRuns
mod DataLinkRunsWorked
mod Establishing
pub mod ErasingReports
pub mod FacchReports
pub mod Limits
