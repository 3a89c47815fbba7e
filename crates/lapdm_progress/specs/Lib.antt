-- How long two data links whose slots come together wait, and when a link is given up.
pub mod Channels
pub mod Progress
pub mod Whole
