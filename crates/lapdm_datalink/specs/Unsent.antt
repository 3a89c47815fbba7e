-- An I frame that waits for its slot: the endpoint counts it as sent, but no block had it yet.
use Rattle.std.specs.Prelude.{◌≡◌, ◌+◌, false}
use Rattle.lapdm_frame.specs.Content.{Frame}
use Rattle.lapdm_end.specs.lapdm_window.declared.State.TheVariants.{Open}
use Rattle.lapdm_datalink.specs.Links.{LinkState, after_received}

-- the link is open, and its outstanding I frame was not sent yet
pub record IsUnsent (l : LinkState) : Type 0 where
  pub state : l.endpoint.state ≡ Open
  pub outstanding : l.endpoint.sent_segments ≡ l.endpoint.acked_segments + 1
  pub unsent : l.is_sent ≡ false

-- the received frame acknowledges nothing
abbrev pub AcknowledgesNothing : (f : Frame) (l : LinkState) → Type 0
AcknowledgesNothing f l = (after_received f l).endpoint.acked_segments ≡ l.endpoint.acked_segments
