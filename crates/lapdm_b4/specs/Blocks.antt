-- UI frames of format B4 (GSM 04.06, sections 2.1 and 5.8.3), with which the network sends system information on SACCH: a block has two
-- layer 1 octets, an address and a control octet, and N201 = 19 octets of information. There is no length octet.
use Rattle.std.specs.Prelude.{◌≡◌, ℕ, ◌-◌, Bool, true, false, List, [], ◌∷◌, ◌++◌, length, replicate, drop}
use Rattle.lapdm_frame.specs.declared.Channel.TheVariants.{Sacch}
use Rattle.lapdm_frame.specs.Layout.{address_in_block, control_in_block}
use Rattle.lapdm_frame.specs.Content.{Frame, Ui}
use Rattle.lapdm_frame.specs.Frames.{address_octet, control_octet, length_octet}

-- a UI frame of SAPI 0 from the network, with P = 0
abbrev pub unit : (info : List ℕ) → Frame
unit info = record { sapi = 0; cr = true; content = Ui false info }

-- the 23 octets are a frame of format B4 with this information; the layer 1 octets and P may have any value
pub record IsB4Coding (info octets : List ℕ) : Type 0 where
  pub count : length octets ≡ 23
  pub address_matches : address_in_block Sacch octets ≡ address_octet (unit info)
  pub p : Bool
  pub control_matches : control_in_block Sacch octets ≡ control_octet (Ui p info)
  pub information_matches : drop 4 octets ≡ info

-- the block with these layer 1 octets and a frame of format B4 with this information
abbrev pub b4_octets : (layer1 info : List ℕ) → List ℕ
b4_octets layer1 info = layer1 ++ address_octet (unit info) ∷ control_octet (Ui false info) ∷ [] ++ info

-- the information that a UI frame of format B has if it is read as one of format B4: its length octet, its information and its fill
abbrev pub format_b_information : (info : List ℕ) → List ℕ
format_b_information info = length_octet (Ui false info) ∷ info ++ replicate (18 - length info) 0x2b
