-- Which calls and frames open a link again, and which do not.
use Rattle.std.specs.Prelude.{◌≡◌, Bool, true, false, [], ◌∷◌}
use Rattle.std.proofs.Common.{refl}
use Rattle.lapdm_frame.specs.declared.Channel.TheVariants.{Sdcch}
use Rattle.lapdm_frame.specs.Content.{Content, Frame, Sabm, Disc}
use Rattle.lapdm_end.specs.lapdm_window.Calls.{Closes, Opens, OpensWithoutInfo, Sends}
use Rattle.lapdm_end.specs.lapdm_window.declared.Sapi.{Sapi}
use Rattle.lapdm_end.specs.lapdm_window.declared.Sapi.TheVariants.{Zero, Three}
use Rattle.lapdm_end.specs.lapdm_window.declared.State.{State}
use Rattle.lapdm_end.specs.lapdm_window.declared.State.TheVariants.{Idle, Opening, Open, Closing, Closed}
use Rattle.lapdm_end.specs.lapdm_window.Ends.{Network, initial_endpoint}
use Rattle.lapdm_datalink.specs.Links.{LinkState, link_with, is_reopened_by_call, is_reopened_by_frame}

-- a link of the network, of which this state and SAPI are those of its endpoint
abbrev link : Sapi → State → LinkState
link sapi state = link_with (record (initial_endpoint Network sapi Sdcch) { state = state }) 2

-- ---- calls: an opening without information, of a link that is closed or open

closed_by_call : is_reopened_by_call OpensWithoutInfo (link Three Closed) ≡ true
closed_by_call = refl

open_by_call : is_reopened_by_call OpensWithoutInfo (link Three Open) ≡ true
open_by_call = refl

not_idle_by_call : is_reopened_by_call OpensWithoutInfo (link Three Idle) ≡ false
not_idle_by_call = refl

not_opening_by_call : is_reopened_by_call OpensWithoutInfo (link Three Opening) ≡ false
not_opening_by_call = refl

not_closing_by_call : is_reopened_by_call OpensWithoutInfo (link Three Closing) ≡ false
not_closing_by_call = refl

not_with_information : is_reopened_by_call (Opens (1 ∷ [])) (link Zero Closed) ≡ false
not_with_information = refl

not_by_a_message : is_reopened_by_call (Sends (1 ∷ [])) (link Three Open) ≡ false
not_by_a_message = refl

not_by_a_release : is_reopened_by_call Closes (link Three Closed) ≡ false
not_by_a_release = refl

-- ---- frames: the mobile's SABM without information, of a closed link that carries none

abbrev from : (cr : Bool) → Content → Frame
from cr content = record { sapi = 3; cr = cr; content = content }

closed_by_sabm : is_reopened_by_frame (from false (Sabm true [])) (link Three Closed) ≡ true
closed_by_sabm = refl

not_by_a_response : is_reopened_by_frame (from true (Sabm true [])) (link Three Closed) ≡ false
not_by_a_response = refl

not_by_information : is_reopened_by_frame (from false (Sabm true (1 ∷ []))) (link Three Closed) ≡ false
not_by_information = refl

not_by_disc : is_reopened_by_frame (from false (Disc true)) (link Three Closed) ≡ false
not_by_disc = refl

not_with_contention : is_reopened_by_frame (record { sapi = 0; cr = false; content = Sabm true [] }) (link Zero Closed) ≡ false
not_with_contention = refl

not_open_by_sabm : is_reopened_by_frame (from false (Sabm true [])) (link Three Open) ≡ false
not_open_by_sabm = refl

not_idle_by_sabm : is_reopened_by_frame (from false (Sabm true [])) (link Three Idle) ≡ false
not_idle_by_sabm = refl
