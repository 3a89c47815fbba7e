mod Repeats
mod Worked
