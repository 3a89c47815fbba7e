-- What a frame that arrives in Open shows of the other side if it breaks the rules (GSM 04.06: section 5.6.2, and the unsolicited
-- responses). F in an RR or a REJ shows nothing: without timer recovery it has no meaning.
use Rattle.std.specs.Prelude.{◌≡◌, ◌≤◌, ◌%◌, ℕ, Bool, true, false, ◌||◌, if◌then◌else◌}
use Rattle.std.specs.Prelude.{nat_eq, Option, Some, None}
use Rattle.lapdm_frame.specs.Content.{Content, I, Rr, Rnr, Rej, Dm, Ua, Frame}
use Rattle.lapdm_end.specs.lapdm_window.declared.Sapi.{Sapi}
use Rattle.lapdm_end.specs.lapdm_window.Ends.{EndpointState, va, vs}
use Rattle.lapdm_end.specs.lapdm_window.Rules.{is_open}
use Rattle.lapdm_end.specs.lapdm_window.Tables.{is_command}
use Rattle.lapdm_datalink.specs.Links.{LinkState, after_received, has_polled}
use Rattle.lapdm_datalink.specs.DataLinks.{DataLinkState, link_with_sapi, sapi_for_frame}
use Rattle.lapdm_faults.specs.declared.Fault.{Fault}
use Rattle.lapdm_faults.specs.declared.Fault.TheVariants.{NrSequence, UnaskedUa, UnaskedDm}

-- the fault of a frame with this N(R): with a window of one, V(A) to V(S) are these two
abbrev pub nr_fault : (nr : ℕ) (endpoint : EndpointState) → Option Fault
nr_fault nr e = if nat_eq nr (va e) || nat_eq nr (vs e) then None else Some NrSequence

-- the fault of a DM with F = 1
abbrev pub dm_fault : EndpointState → Option Fault
dm_fault e = if has_polled e then None else Some UnaskedDm

-- the fault of a frame with this content in Open
abbrev pub fault_in_open : (is_command : Bool) (content : Content) (endpoint : EndpointState) → Option Fault
fault_in_open true (I ns nr p more info) e = nr_fault nr e
fault_in_open is_command (Rr nr pf) e = nr_fault nr e
fault_in_open is_command (Rnr nr pf) e = nr_fault nr e
fault_in_open is_command (Rej nr pf) e = nr_fault nr e
fault_in_open false (Ua f info) e = Some UnaskedUa
fault_in_open false (Dm true) e = dm_fault e
fault_in_open is_command other e = None

-- the fault of a frame that arrives at this endpoint
abbrev pub fault_of : Frame → EndpointState → Option Fault
fault_of f e = if is_open e.state then fault_in_open (is_command e f) f.content e else None

-- the fault of a frame that the link of this SAPI, if any, takes
abbrev pub fault_at : (sapi : Option Sapi) (frame : Frame) (state : DataLinkState) → Option Fault
fault_at None f s = None
fault_at (Some sapi) f s = fault_of f (link_with_sapi sapi s).endpoint

-- the fault of a frame that arrives at a data link
abbrev pub arrival_fault : Frame → DataLinkState → Option Fault
arrival_fault f s = fault_at (sapi_for_frame f s) f s

-- N(R) counts some of the segments sent, and all that are acknowledged
pub record CountsSegments (nr : ℕ) (e : EndpointState) : Type 0 where
  pub count : ℕ
  pub number : nr ≡ count % 8
  pub not_fewer : e.acked_segments ≤ count
  pub not_more : count ≤ e.sent_segments

-- the received frame acknowledges nothing and ends no link
pub record HasNoEffect (f : Frame) (l : LinkState) : Type 0 where
  pub acked : (after_received f l).endpoint.acked_segments ≡ l.endpoint.acked_segments
  pub state : (after_received f l).endpoint.state ≡ l.endpoint.state
