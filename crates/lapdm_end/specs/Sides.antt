-- The abstraction relation of `Side`, and when its calls implement the specification.
use Rattle.std.specs.Prelude.{◌≡◌, map}
use Rattle.lapdm_frame.specs.declared.Channel.{Channel}
use Rattle.lapdm_frame.specs.Frames.{octets_of}
use Rattle.lapdm_window.specs.declared.Sapi.{Sapi}
use Rattle.lapdm_window.specs.declared.Sapi.TheVariants.{Zero, Three}
use Rattle.lapdm_window.specs.declared.effects.Effects.{Effects}
use Rattle.lapdm_window.specs.Ends.{Role}
use Rattle.lapdm_window.specs.Sides.{SideState, SideStep}
use Rattle.lapdm_end.specs.declared.ends.Endpoint.{Endpoint}
use Rattle.lapdm_end.specs.declared.sides.Side.{Side}
use Rattle.lapdm_end.specs.Abstraction as L

-- the endpoint that a Rust `Side` has for this SAPI
abbrev pub endpoint_of : Sapi → Side → Endpoint
endpoint_of Zero m = m.link0
endpoint_of Three m = m.link3

-- the other SAPI: 3 for 0, and 0 for 3
abbrev pub other : Sapi → Sapi
other Zero = Three
other Three = Zero

-- the channel of both endpoints of the side
abbrev pub channel_of : Side → Channel
channel_of m = L.channel_of m.link0

-- the role of both endpoints of the side
abbrev pub role_of : Side → Role
role_of m = L.role_of m.link0

-- the two endpoints of the Rust side `m` represent the endpoints of the abstract side `a`
pub record Represents (m : Side) (a : SideState) : Type 0 where
  pub link0 : L.Represents m.link0 a.link0
  pub link3 : L.Represents m.link3 a.link3

-- the Rust side has carried out step `d`: it returned the SAPI, frames and notices of `d`, and `new` represents the state after `d`
pub record CarriesOutStep (channel : Channel) (d : SideStep) (sapi : Sapi) (effects : Effects) (new : Side) : Type 0 where
  pub represents : Represents new d.new_state
  pub sapi_matches : sapi ≡ d.sapi
  pub frames : effects.frames ≡ map (octets_of channel) d.frames
  pub notices : effects.notices ≡ d.notices

-- for every state that the old `Side` represents, the SAPI, the effects and the new `Side` are those of this step
abbrev pub StepRefines : (side_step : (SideState → SideStep)) (old : Side) (sapi : Sapi) (effects : Effects) (new : Side) → Type 0
StepRefines side_step old sapi effects new = (a : SideState) → Represents old a →
    CarriesOutStep (channel_of old) (side_step a) sapi effects new
