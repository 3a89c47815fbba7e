-- The address of an endpoint (its side, SAPI and channel), and the frames that an endpoint with this address sends.
use Rattle.std.specs.Prelude.{◌≡◌, Bool, not}
use Rattle.lapdm_frame.specs.Content.{Content, Frame}
use Rattle.lapdm_window.specs.Ends.{EndpointState, command_cr, sapi_number}
use Rattle.lapdm_window.specs.Ends as E
use Rattle.lapdm_end.specs.declared.Role.{Role}
use Rattle.lapdm_end.specs.declared.Role.TheVariants.{Mobile, Network}
use Rattle.lapdm_end.specs.declared.link.Address.{Address}

-- the `Role` of the specification that corresponds to a Rust `Role`
abbrev pub spec_role_of : Role → E.Role
spec_role_of Mobile = E.Mobile
spec_role_of Network = E.Network

-- a frame with the SAPI of this address, this C/R bit and this content
abbrev pub frame_with_cr : (address : Address) (cr : Bool) (content : Content) → Frame
frame_with_cr l cr content = record { sapi = sapi_number l.sapi; cr = cr; content = content }

-- a command frame that the endpoint with this address sends
abbrev pub command_frame_from : Address → Content → Frame
command_frame_from l content = frame_with_cr l (command_cr (spec_role_of l.role)) content

-- a response frame that the endpoint with this address sends
abbrev pub response_frame_from : Address → Content → Frame
response_frame_from l content = frame_with_cr l (not (command_cr (spec_role_of l.role))) content

-- `l` is the address of endpoint `e`: its role, SAPI and channel
pub record IsAddressOf (l : Address) (e : EndpointState) : Type 0 where
  pub role : spec_role_of l.role ≡ e.role
  pub sapi : l.sapi ≡ e.sapi
  pub channel : l.channel ≡ e.channel
