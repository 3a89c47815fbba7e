-- `Kept`, `Lemmas`, `Answering` and `First` are for the crates above.
pub mod Returned
pub mod Lemmas
mod Views
pub mod Answering
pub mod First
mod SabmInOpen
mod DmInOpen
mod DmWorked
mod Unsent
mod UnsentWorked
mod Normal
mod NormalWorked
mod ReopenedWorked
mod SabmWorked
mod SlotsWorked
pub mod Kept
