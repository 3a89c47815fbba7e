mod Faults
mod Worked
