-- Where the fields of a frame are in the 23 octets of a block, on each channel (GSM 04.06, section 2.1).
use Rattle.std.specs.Prelude.{ℕ, ◌+◌, List, slice_index, slice_range}
use Rattle.lapdm_frame.specs.declared.Channel.{Channel}
use Rattle.lapdm_frame.specs.declared.Channel.TheVariants.{Sdcch, Sacch}

-- the number of octets before the address: 0 on SDCCH, 2 (layer 1) on SACCH
abbrev pub layer1_octet_count : Channel → ℕ
layer1_octet_count Sdcch = 0
layer1_octet_count Sacch = 2

-- N201, the maximum number of information octets in a frame (section 5.8.3): 23 minus the layer 1, address, control and length octets
abbrev pub n201 : Channel → ℕ
n201 Sdcch = 20
n201 Sacch = 18

-- the larger of the two values of N201: 20, on SDCCH
abbrev pub largest_n201 : ℕ
largest_n201 = n201 Sdcch

-- the address octet of a block; the control octet and the length octet follow it
abbrev pub address_in_block : (channel : Channel) (octets : List ℕ) → ℕ
address_in_block channel octets = slice_index octets (layer1_octet_count channel)

abbrev pub control_in_block : (channel : Channel) (octets : List ℕ) → ℕ
control_in_block channel octets = slice_index octets (layer1_octet_count channel + 1)

abbrev pub length_in_block : (channel : Channel) (octets : List ℕ) → ℕ
length_in_block channel octets = slice_index octets (layer1_octet_count channel + 2)

-- the information octets of a block, given their number
abbrev pub information_in_block : (channel : Channel) (octets : List ℕ) (size : ℕ) → List ℕ
information_in_block channel octets size = slice_range octets (layer1_octet_count channel + 3) (layer1_octet_count channel + 3 + size)
