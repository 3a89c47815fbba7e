mod Changes
mod Stays
mod Worked
