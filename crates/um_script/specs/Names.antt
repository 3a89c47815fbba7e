-- The first two words of a script line: the actor and the action (used inside this crate).
use Rattle.std.specs.Prelude.{ℕ, List, Option, Some, None, codes, if◌then◌else◌}
use Rattle.std.specs.Str.{bytes_eq}
use Rattle.um_link.specs.lapdm_window.declared.Sapi.{Sapi}
use Rattle.um_link.specs.lapdm_window.declared.Sapi.TheVariants.{Zero, Three}
use Rattle.um_lines.specs.LinkForms as L
use Rattle.um_link.specs.declared.events.End.{End}
use Rattle.um_link.specs.declared.events.End.TheVariants.{Mobile, Network}
use Rattle.um_link.specs.declared.events.Way.{Way}
use Rattle.um_link.specs.declared.events.Way.TheVariants.{Up, Down}
use Rattle.um_script.specs.declared.names.Actor.{Actor}
use Rattle.um_script.specs.declared.names.Actor.TheVariants as W
use Rattle.um_script.specs.declared.names.Request.{Request}
use Rattle.um_script.specs.declared.names.Request.TheVariants as Q
use Rattle.um_script.specs.declared.names.RadioAction.{RadioAction}
use Rattle.um_script.specs.declared.names.RadioAction.TheVariants as A

abbrev pub link_endpoint_of : End → Sapi → L.LinkEndpoint
link_endpoint_of Mobile Zero = L.MobileSapi0
link_endpoint_of Mobile Three = L.MobileSapi3
link_endpoint_of Network Zero = L.NetworkSapi0
link_endpoint_of Network Three = L.NetworkSapi3

abbrev pub link_direction_of : Way → L.Way
link_direction_of Up = L.Up
link_direction_of Down = L.Down

abbrev pub actor_of_name : (word : List ℕ) → Option Actor
actor_of_name word =
    if bytes_eq word (codes "mob") then Some (W.End Mobile Zero)
    else if bytes_eq word (codes "mob3") then Some (W.End Mobile Three)
    else if bytes_eq word (codes "net") then Some (W.End Network Zero)
    else if bytes_eq word (codes "net3") then Some (W.End Network Three)
    else if bytes_eq word (codes "up") then Some (W.Way Up)
    else if bytes_eq word (codes "down") then Some (W.Way Down)
    else if bytes_eq word (codes "rival") then Some W.Rival
    else None

abbrev pub request_of_name : (word : List ℕ) → Option Request
request_of_name word =
    if bytes_eq word (codes "open") then Some Q.Open
    else if bytes_eq word (codes "send") then Some Q.Send
    else if bytes_eq word (codes "unit") then Some Q.Unit
    else if bytes_eq word (codes "close") then Some Q.Close
    else if bytes_eq word (codes "tick") then Some Q.Tick
    else if bytes_eq word (codes "idle") then Some Q.Idle
    else None

abbrev pub action_of_name : (word : List ℕ) → Option RadioAction
action_of_name word =
    if bytes_eq word (codes "deliver") then Some A.Deliver
    else if bytes_eq word (codes "lose") then Some A.Lose
    else if bytes_eq word (codes "flip") then Some A.Flip
    else None
