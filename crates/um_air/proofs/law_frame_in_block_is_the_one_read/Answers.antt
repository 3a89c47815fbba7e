use Rattle.{std.proofs.Common.{subst, sym}, um_air.{proofs.Lemmas.{ReadsFrame-frame_in_accepted, frame_in-only}, specs.Air.ReadsFrame}}
use Rattle.um_air.proofs.law_frame_in_block_is_the_one_read.Goals as goal

pub returns : goal.returns
returns c channel accepted read count = (
  λ is. subst (ReadsFrame channel accepted) is (ReadsFrame-frame_in_accepted channel accepted count),
  λ reads. sym (frame_in-only channel accepted read count reads),
)
