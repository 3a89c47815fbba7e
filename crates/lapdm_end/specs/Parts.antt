-- The state of an `Endpoint` as plain data.
use Rattle.std.specs.Prelude.{◌≡◌, ◌≤◌, ℕ, [], length}
use Rattle.lapdm_frame.specs.Layout.{n201}
use Rattle.lapdm_window.specs.segmenting.Segments.{Message}
use Rattle.lapdm_window.specs.segmenting.Joiners.{HoldsReassemblyOf}
use Rattle.lapdm_window.specs.declared.Sapi.{Sapi}
use Rattle.lapdm_window.specs.declared.Sapi.TheVariants.{Zero}
use Rattle.lapdm_window.specs.declared.State.{State}
use Rattle.lapdm_window.specs.declared.State.TheVariants.{Idle, Opening, Open, Closing, Closed}
use Rattle.lapdm_window.specs.Ends.{EndpointState, IsPossibleSabmInfo}
use Rattle.lapdm_window.specs.Parts.{WindowValues}
use Rattle.lapdm_window.specs.Parts as W
use Rattle.lapdm_end.specs.declared.Role.{Role}
use Rattle.lapdm_end.specs.declared.Role.TheVariants.{Mobile}
use Rattle.lapdm_end.specs.declared.ends.Endpoint.{Endpoint}
use Rattle.lapdm_end.specs.declared.parts.EndpointView.{EndpointView}
use Rattle.lapdm_end.specs.Abstraction.{Represents}

-- the state of an `Endpoint` as plain data: its own fields and the state of its window
pub record EndpointValues : Type 0 where
  pub role : Role
  pub sapi : Sapi
  pub state : State
  pub sabm_info : Message
  pub retries : ℕ
  pub window : WindowValues

-- the state of an endpoint as plain data
abbrev pub values_of : Endpoint → EndpointValues
values_of m = record {
  role = m.address.role;
  sapi = m.address.sapi;
  state = m.state;
  sabm_info = m.sabm_info;
  retries = m.retries;
  window = W.values_of m.window;
}

-- the endpoint state in a Rust `EndpointView`
abbrev pub values_of_parts : EndpointView → EndpointValues
values_of_parts p = record {
  role = p.role;
  sapi = p.sapi;
  state = p.state;
  sabm_info = p.sabm_info.now;
  retries = p.retries;
  window = W.values_of_parts p.window;
}

-- some Rust endpoint has the values `x` and represents the abstract endpoint `e`
pub record ValuesRepresent (x : EndpointValues) (e : EndpointState) : Type 0 where
  pub endpoint : Endpoint
  pub values_match : values_of endpoint ≡ x
  pub represents : Represents endpoint e

-- some Rust endpoint has these values and represents some abstract endpoint
abbrev pub SomeEndpointHasValues : EndpointValues → Type 0
SomeEndpointHasValues x = (e : EndpointState) × ValuesRepresent x e

-- the window is in its initial state: it holds no message, V(S), V(A), V(R) and the number of acknowledged messages are 0, and it has
-- accepted no segment
pub record IsInitialWindow (x : WindowValues) : Type 0 where
  pub held : x.held ≡ []
  pub vs : x.vs ≡ 0
  pub va : x.va ≡ 0
  pub vr : x.vr ≡ 0
  pub acked_messages : x.acked_messages ≡ 0
  pub reassembly : HoldsReassemblyOf x.joiner.part x.joiner.octets []

-- before state Open, the window is in its initial state; from Open on, there is no condition
abbrev pub IsWindowInitialBeforeOpen : (state : State) (values : WindowValues) → Type 0
IsWindowInitialBeforeOpen Idle x = IsInitialWindow x
IsWindowInitialBeforeOpen Opening x = IsInitialWindow x
IsWindowInitialBeforeOpen Open x = Unit {0}
IsWindowInitialBeforeOpen Closing x = Unit {0}
IsWindowInitialBeforeOpen Closed x = Unit {0}

-- before state Open no segment has been repeated, in Open no SABM and no DISC, in Closing no segment, and in Idle and Closed nothing
abbrev pub HasNoRepeats : (state : State) (retries segment_repeats : ℕ) → Type 0
HasNoRepeats Opening retries segment_repeats = segment_repeats ≡ 0
HasNoRepeats Closing retries segment_repeats = segment_repeats ≡ 0
HasNoRepeats Open retries segment_repeats = retries ≡ 0
HasNoRepeats other retries segment_repeats = (retries ≡ 0) × (segment_repeats ≡ 0)

-- the conditions under which an endpoint can be restored from this state, in addition to the conditions on its window
pub record AreConsistent (x : EndpointValues) : Type 0 where
  pub sabm_info_fits : length x.sabm_info ≤ n201 x.window.channel
  pub possible_sabm_info : IsPossibleSabmInfo x.state x.sapi x.sabm_info
  pub mobile_opens_sapi0 : x.state ≡ Opening → x.sapi ≡ Zero → x.role ≡ Mobile
  pub no_repeats : HasNoRepeats x.state x.retries x.window.retries
  pub window_initial_before_open : IsWindowInitialBeforeOpen x.state x.window
