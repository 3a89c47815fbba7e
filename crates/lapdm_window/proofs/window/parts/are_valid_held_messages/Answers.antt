use Rattle.{
  std.proofs.{
    Common.{arith, List, [], ◌∷◌, map, All},
    lemmas.{Bool.false≢true, List.{length-map, Elements.{All-map, All-nil, All-cons, All-head, All-tail}}},
  },
  segmenting.specs.{declared.buffers.MessageBuffer.MessageBuffer, Segments.IsValidMessage, Buffers.octets_in_buffer},
}
use Rattle.lapdm_window.proofs.window.parts.are_valid_held_messages.Goals as goal

All-octets_in_buffer : (buffers : List MessageBuffer) → All IsValidMessage (map octets_in_buffer buffers) →
    All (λ room. IsValidMessage (octets_in_buffer room)) buffers
All-octets_in_buffer [] h = All-nil (λ room. IsValidMessage (octets_in_buffer room))
All-octets_in_buffer (room ∷ buffers) h =
    All-cons (λ room. IsValidMessage (octets_in_buffer room)) room buffers
    (All-head IsValidMessage (octets_in_buffer room) (map octets_in_buffer buffers) h)
    (All-octets_in_buffer buffers (All-tail IsValidMessage (octets_in_buffer room) (map octets_in_buffer buffers) h))

pub returns-then-messages-gt8 : goal.returns-then-messages-gt8
returns-then-messages-gt8 c =
    let buffers = c.args.messages.now in
    (λ s. absurd (false≢true s), λ h. absurd (omega (arith, h.at_most_8, length-map buffers octets_in_buffer, c.if-messages-gt8.true)))

pub returns : goal.returns
returns c =
    let buffers = c.args.messages.now in (
      λ s. record {
        at_most_8 = omega (arith, length-map buffers octets_in_buffer, c.if-messages-gt8.false);
        messages = All-map IsValidMessage octets_in_buffer buffers (c.are_valid_messages.ensures.0 s);
      },
      λ h. c.are_valid_messages.ensures.1 (All-octets_in_buffer buffers h.messages),
    )
