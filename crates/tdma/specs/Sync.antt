-- The 25 information bits of a synchronisation burst (GSM 04.08, today 3GPP TS 44.018, section 9.1.30): octets, each sent least
-- significant bit first, with the BSIC in bits 8 to 3 of the first octet, then T1, T2 and T3', each most significant bit first.
use Rattle.std.specs.Prelude.{ℕ, ◌≡◌, ◌<◌, ◌+◌, ◌*◌, ◌-◌, ◌/◌, ◌%◌, List, [], ◌∷◌, ◌++◌}
use Rattle.std.specs.Prelude.{slice_index}
use Rattle.bit_blocks.specs.Octets.{bits_of}
use Rattle.tdma.specs.declared.TheConstants.{HYPERFRAME}
use Rattle.tdma.specs.declared.sync.SchInfo.{SchInfo}

-- T3', the reduced place in the 51-multiframe (GSM 05.02 section 3.3.2.2): synchronisation bursts have T3 = 10 * T3' + 1
abbrev pub reduced_t3 : (frame : ℕ) → ℕ
reduced_t3 frame = (frame % 51 - 1) / 10

-- a base station with this BSIC sends a synchronisation burst in this frame
abbrev pub HasSch : SchInfo → Type 0
HasSch info = (info.bsic < 64) × (info.frame < HYPERFRAME) × (info.frame % 51 % 10 ≡ 1)

-- the first three octets
abbrev pub sch_octets : (bsic t1 t2 reduced_t3 : ℕ) → List ℕ
sch_octets bsic t1 t2 t3 = (bsic * 4 + t1 / 512) ∷ t1 / 2 % 256 ∷ (t1 % 2 * 128 + t2 * 4 + t3 / 2) ∷ []

-- the 25 bits: those of three octets, and the lowest bit of T3'
unfoldable pub sch_bits : SchInfo → List ℕ
sch_bits info =
    let t3 = reduced_t3 info.frame in
    bits_of (sch_octets info.bsic (info.frame / 1326) (info.frame % 26) t3) ++ (t3 % 2 ∷ [])

-- T2 of the 25 bits
abbrev pub t2_of_bits : (bits : List ℕ) → ℕ
t2_of_bits bits =
    slice_index bits 18 + 2 * slice_index bits 19 + 4 * slice_index bits 20 + 8 * slice_index bits 21 + 16 * slice_index bits 22

-- T3' of the 25 bits
abbrev pub t3_of_bits : (bits : List ℕ) → ℕ
t3_of_bits bits = slice_index bits 24 + 2 * slice_index bits 16 + 4 * slice_index bits 17
