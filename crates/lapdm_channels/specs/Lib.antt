-- Messages of layer 3 over one channel after another.
pub mod Changes
