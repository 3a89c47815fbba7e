pub mod Bursts
pub mod ColumnPositions
pub mod Columns
pub mod Positions
