-- Lemmas that other crates cite: the most likely word and the second word are unique, and for every word there is a second word.
pub use Rattle.list_decode.proofs.Margins.{IsLikelihoodMargin-second, HasTiedWord-margin, both_unique, margin-hard_bits, one_margin}
pub use Rattle.list_decode.proofs.Margins.{some_second}
pub use Rattle.list_decode.proofs.Rankings.{IsRanked-none, most_likely_is_ranked}
pub use Rattle.list_decode.proofs.Rankings.{before_or_behind, beginning_is_ranked, one_ranking, first_to_pass_is_best}
