pub mod Positions
pub mod Bursts
mod JoinedLanes
mod PackedColumns
