use Rattle.interleave.proofs.Bursts.{IsInterleaved-any_order}
use Rattle.interleave.proofs.laws.law_bursts_deinterleave_in_any_order.Goals as goal

pub returns : goal.returns
returns c = IsInterleaved-any_order
