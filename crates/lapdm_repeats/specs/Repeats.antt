-- An RR acknowledges segments (GSM 04.06, sections 3.8.5 and 5.5.3). Unless it is a poll it says nothing else, and one that comes again
-- says nothing the second time.
use Rattle.std.specs.Prelude.{◌≡◌, ℕ, Bool, false, ◌&&◌}
use Rattle.lapdm_frame.specs.Content.{Frame, Rr}
use Rattle.lapdm_end.specs.lapdm_window.Rules.{may_send_next_segment}
use Rattle.lapdm_end.specs.lapdm_window.Tables.{is_command}
use Rattle.lapdm_datalink.specs.Links.{LinkState}

-- the frame is an RR with this N(R) and F = 0
abbrev pub IsPlainRr : (nr : ℕ) (f : Frame) → Type 0
IsPlainRr nr f = f.content ≡ Rr nr false

-- the frame is an RR with this N(R), and no poll for the link that takes it: a response, or one with F = 0
pub record IsRr (nr : ℕ) (f : Frame) (l : LinkState) : Type 0 where
  pub pf : Bool
  pub content : f.content ≡ Rr nr pf
  pub no_poll : (is_command l.endpoint f && pf) ≡ false

-- the link has sent each segment that it may send before an acknowledgement arrives
abbrev pub HasSentWhatItMay : LinkState → Type 0
HasSentWhatItMay l = may_send_next_segment l.endpoint ≡ false
