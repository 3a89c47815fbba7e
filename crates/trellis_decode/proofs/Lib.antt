pub use Rattle.conv_code.proofs as conv_code
mod AcsSteps
mod Viterbi
mod HardLanes
mod SurvivorLists
mod FilledMaps
pub mod Lemmas
mod AcsVectors
