-- The coding of a frame in octets (GSM 04.06, section 3), as arithmetic.
use Rattle.std.specs.Prelude.{◌≡◌, ℕ, ◌+◌, ◌-◌, ◌*◌, ◌<◌, ◌≤◌, Bool, true, false, List, [], ◌∷◌}
use Rattle.std.specs.Prelude.{◌++◌, length, replicate, slice_index}
use Rattle.lapdm_frame.specs.declared.Channel.{Channel}
use Rattle.lapdm_frame.specs.Layout.{layer1_octet_count, n201, address_in_block, control_in_block, length_in_block, information_in_block}
use Rattle.lapdm_frame.specs.Content.{Content, I, Rr, Rnr, Rej, Sabm, Dm, Ui, Disc, Ua, Frame, information, more_follows}

-- a bit as a number, 0 or 1
abbrev pub bit_of_bool : Bool → ℕ
bit_of_bool false = 0
bit_of_bool true = 1

-- the address octet (section 3.2): LPD 00 in bits 7 and 6, SAPI in bits 5 to 3, C/R in bit 2, EA = 1
abbrev pub address_octet : Frame → ℕ
address_octet f = 4 * f.sapi + 2 * bit_of_bool f.cr + 1

-- the control octet (section 3.4): N(R) in bits 8 to 6, P or F in bit 5, N(S) of an I frame in bits 4 to 2
abbrev pub control_octet : Content → ℕ
control_octet (I ns nr p more info) = 32 * nr + 16 * bit_of_bool p + 2 * ns
control_octet (Rr nr pf) = 32 * nr + 16 * bit_of_bool pf + 1
control_octet (Rnr nr pf) = 32 * nr + 16 * bit_of_bool pf + 5
control_octet (Rej nr pf) = 32 * nr + 16 * bit_of_bool pf + 9
control_octet (Sabm p info) = 16 * bit_of_bool p + 47
control_octet (Dm f) = 16 * bit_of_bool f + 15
control_octet (Ui p info) = 16 * bit_of_bool p + 3
control_octet (Disc p) = 16 * bit_of_bool p + 67
control_octet (Ua f info) = 16 * bit_of_bool f + 99

-- the length octet (section 3.7): length L in bits 8 to 3 (3.7.3), M in bit 2 (3.7.2), EL = 1 (3.7.1)
abbrev pub length_octet : Content → ℕ
length_octet content = 4 * length (information content) + 2 * bit_of_bool (more_follows content) + 1

-- N(S) and N(R), if the frame has them, fit in three bits
abbrev pub NsAndNrFit : Content → Type 0
NsAndNrFit (I ns nr p more info) = (ns ≤ 7) × (nr ≤ 7)
NsAndNrFit (Rr nr pf) = nr ≤ 7
NsAndNrFit (Rnr nr pf) = nr ≤ 7
NsAndNrFit (Rej nr pf) = nr ≤ 7
NsAndNrFit other = Unit {0}

-- the information fits in a frame on the channel: at most N201 octets, and at least one octet in an I frame
abbrev pub InformationFits : (channel : Channel) (content : Content) → Type 0
InformationFits channel (I ns nr p more info) = (1 ≤ length info) × (length info ≤ n201 channel)
InformationFits channel other = length (information other) ≤ n201 channel

-- the frame `f` can be written on the channel: its SAPI, N(S) and N(R) fit in three bits, and its information fits in the block
pub record FrameFits (channel : Channel) (f : Frame) : Type 0 where
  pub sapi : f.sapi ≤ 7
  pub ns_nr_fit : NsAndNrFit f.content
  pub information : InformationFits channel f.content

-- the 23 octets encode the frame `f`; the layer 1 octets before the address and the octets after the information may have any value
pub record IsFrameCoding (channel : Channel) (f : Frame) (octets : List ℕ) : Type 0 where
  pub count : length octets ≡ 23
  pub fits : FrameFits channel f
  pub address_matches : address_in_block channel octets ≡ address_octet f
  pub control_matches : control_in_block channel octets ≡ control_octet f.content
  pub length_matches : length_in_block channel octets ≡ length_octet f.content
  pub information_matches : information_in_block channel octets (length (information f.content)) ≡ information f.content

-- the 23 octets encode the frame `f`, the layer 1 octets before the address are 00 (this project's own rule), and the octets after the
-- information are fill octets 2b (section 2.2)
pub record IsCanonicalCoding (channel : Channel) (f : Frame) (octets : List ℕ) : Type 0 where
  pub frame : IsFrameCoding channel f octets
  pub layer1_octets_are_zero : (k : ℕ) → k < layer1_octet_count channel → slice_index octets k ≡ 0
  pub fill_octets_after_information : (k : ℕ) → layer1_octet_count channel + 3 + length (information f.content) ≤ k → k < 23 →
      slice_index octets k
      ≡ 0x2b

-- the canonical coding (23 octets) of a frame that fits on the channel
abbrev pub octets_of : Channel → Frame → List ℕ
octets_of channel f =
    let info = information f.content in
    replicate (layer1_octet_count channel) 0 ++ address_octet f ∷ control_octet f.content ∷ length_octet f.content ∷ [] ++ info
    ++ replicate (n201 channel - length info) 0x2b
