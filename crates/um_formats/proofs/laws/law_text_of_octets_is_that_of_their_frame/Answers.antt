use Rattle.{
  std.proofs.Common.{subst, sym},
  um_formats.{proofs.FrameLines.{IsTextOfOctets-text_of_octets, text_of_octets-only}, specs.FrameTexts.IsTextOfOctets},
}
use Rattle.um_formats.proofs.laws.law_text_of_octets_is_that_of_their_frame.Goals as goal

pub returns : goal.returns
returns c octets text count = (
  λ is. subst (IsTextOfOctets octets) is (IsTextOfOctets-text_of_octets octets count),
  λ holds. sym (text_of_octets-only octets text count holds),
)
