-- A received block has at most one frame.
use Rattle.{
  lapdm_frame.{
    proofs.Lemmas.{never_refused, same_frame},
    specs.{AcceptedBlocks.ReadsFrame, Content.Frame, Frames.IsFrameCoding, Refusals.IsRefused, declared.{Channel.Channel, Refusal.Refusal}},
  },
  std.proofs.Common.{List, Option, arith, ℕ, ◌≡◌},
}

never_both : (channel : Channel) (octets : List ℕ) (f : Frame) (why : Refusal) → IsFrameCoding channel f octets →
    IsRefused channel octets why → ⊥
never_both channel octets f why h g = never_refused channel octets f h why g.applies

pub one_read : (channel : Channel) (o : Option (List ℕ)) (f g : Option Frame) → ReadsFrame channel o f → ReadsFrame channel o g →
    f ≡ g
one_read channel o f g h k = grind (arith, same_frame, never_both)
