-- How `BothSides`, the four Rust endpoints, represents the state of both sides.
use Rattle.std.specs.Prelude.{◌≡◌, ℕ, List, Option, map}
use Rattle.lapdm_frame.specs.AcceptedBlocks.{ReadsFrame}
use Rattle.lapdm_frame.specs.Content.{Frame}
use Rattle.lapdm_frame.specs.declared.Channel.{Channel}
use Rattle.lapdm_frame.specs.Frames.{octets_of}
use Rattle.um_air.specs.lapdm_window.declared.effects.Effects.{Effects}
use Rattle.lapdm_end.specs.Sides as S
use Rattle.um_air.specs.lapdm_window.declared.Sapi.{Sapi}
use Rattle.um_air.specs.lapdm_window.Ends.{Role, Mobile, Network}
use Rattle.um_air.specs.lapdm_link.Events as E
use Rattle.um_link.specs.declared.ends.BothSides.{BothSides}

-- the four Rust endpoints `p` represent the abstract state `es` of both sides
pub record Represents (p : BothSides) (es : E.BothSides) : Type 0 where
  pub mobile : S.Represents p.mobile es.mobile
  pub network : S.Represents p.network es.network

-- `p` has a side of the mobile and one of the network, both on this channel
pub record AreSidesOn (channel : Channel) (p : BothSides) : Type 0 where
  pub mobile_role : S.role_of p.mobile ≡ Mobile
  pub network_role : S.role_of p.network ≡ Network
  pub mobile : S.channel_of p.mobile ≡ channel
  pub network : S.channel_of p.network ≡ channel

-- the channel that the mobile uses
abbrev pub channel_of_ends : BothSides → Channel
channel_of_ends p = S.channel_of p.mobile

-- `effects` are the frames of step `d`, encoded as octets, and its notices
pub record HasEffects (effects : Effects) (channel : Channel) (d : E.SideStep) : Type 0 where
  pub frames : effects.frames ≡ map (octets_of channel) d.frames
  pub notices : effects.notices ≡ d.notices

-- for every state that the old endpoints represent, the new endpoints represent the state after this step, and the effects are the frames
-- and notices of the step
abbrev pub StepRefines : (channel : Channel) (event_step : (E.BothSides → E.SideStep)) (old : BothSides) (effects : Effects)
    (new : BothSides) → Type 0
StepRefines channel event_step old effects new = (es : E.BothSides) → Represents old es → Represents new (event_step es).new_state
    × HasEffects effects channel (event_step es)

-- the side with this role receives the frame that the accepted octets encode, or does nothing if there is none; the result is the SAPI of
-- its endpoint
pub record TakesBlock (role : Role) (accepted : Option (List ℕ)) (old : BothSides) (sapi : Sapi) (effects : Effects) (new : BothSides)
    : Type 0 where
  pub refines : (read : Option Frame) → ReadsFrame (channel_of_ends old) accepted read →
      StepRefines (channel_of_ends old) (E.step_for_read_frame role read) old effects new
  pub sapi_matches : (read : Option Frame) → ReadsFrame (channel_of_ends old) accepted read → (es : E.BothSides) →
      Represents old es → sapi ≡ (E.step_for_read_frame role read es).sapi
