-- Reports that the first half of the main theorem refuses: data that the CRC does not allow, data kept back that it allows, and a line that
-- says nothing of its bursts.
use Rattle.{
  std.{
    proofs.Common.{Bool, List, None, Option, Some, [], ap, false, refl, replicate, subst, sym, true},
    proofs.Common.{ℕ, ℤ, ◌++◌, ◌∷◌, ◌≡◌},
    specs.Prelude.MatchOption,
  },
  um_code.specs.um_formats.{
    Reports.{IsBlockReportText, access_report_text, block_report_line, sync_report_text},
    FrameTexts.IsTextOfOctets,
    declared.burst_lines.BurstLine.TheVariants.{Access, Normal, Skip, Sync},
  },
  um_end.{
    proofs.um_block.bit_blocks.Lemmas.{AllBits-bits_of, AllBits-table},
    specs.um_block.{
      declared.{received.Received.Received, received.ReceivedAccess.ReceivedAccess, received.ReceivedSync.ReceivedSync},
      fire_code.{Crcs.{rach_crc, sch_crc, xcch_crc}, Registers.low_bits, Words.{IsRachCodeword, IsSchCodeword, IsXcchCodeword}},
    },
  },
  um_cli.specs.Decoded.{IsMostLikelyAccessWord, IsMostLikelySyncWord, IsMostLikelyWord, IsReportOfMostLikelyWord},
  um_repair.proofs.fire_code.Lemmas.{is_rach_crc, is_sch_crc, one_rach_crc, one_sch_crc, xcch_crc_word},
}

abbrev zeros : ℕ → List ℕ
zeros n = replicate n 0

abbrev ones : ℕ → List ℕ
ones n = replicate n 1

-- a text that has an octet is not empty
abbrev is_silent : List ℕ → Bool
is_silent [] = true
is_silent (octet ∷ octets) = false

not_silent : (text : List ℕ) → is_silent text ≡ false → [] ≡ text → ⊥
not_silent text says same = let none : true ≡ is_silent text = ap is_silent same in absurd (cc (none, says))

-- ## Blocks: The check bits of 184 zeros are ones.

right_block : IsXcchCodeword (zeros 184 ++ ones 40)
unfolding xcch_crc low_bits
right_block = subst IsXcchCodeword same (xcch_crc_word (zeros 184) refl (AllBits-bits_of (replicate 23 0)))
  where
    same : zeros 184 ++ xcch_crc (zeros 184) ≡ zeros 184 ++ ones 40
    same = refl

kept_back : (bursts : List (List ℤ)) (r : Received) → r.u ≡ zeros 184 ++ ones 40 ++ zeros 4 → r.accepted ≡ None →
    IsMostLikelyWord bursts r → ⊥
kept_back bursts r is none h = (rw (is, none) at h.accepted) right_block

other_data : (bursts : List (List ℤ)) (r : Received) → r.u ≡ zeros 184 ++ ones 40 ++ zeros 4 → r.accepted ≡ Some [] →
    IsMostLikelyWord bursts r → ⊥
other_data bursts r is some h =
    let empty : [] ≡ zeros 23 = (rw (is, some) at h.accepted).1 in not_silent (zeros 23) refl empty

-- ## Access bursts: The check bits of 8 zeros are ones, to which the BSIC is added.

right_access : IsRachCodeword (zeros 8 ++ zeros 6) (ones 6)
unfolding rach_crc low_bits
right_access =
    (is_rach_crc (zeros 8) (zeros 6) (ones 6) refl (AllBits-table (zeros 8) refl) refl (AllBits-table (ones 6) refl)).0 refl

right_for_another_cell : IsRachCodeword (zeros 8 ++ ones 6) (zeros 6)
unfolding rach_crc low_bits
right_for_another_cell =
    (is_rach_crc (zeros 8) (ones 6) (zeros 6) refl (AllBits-table (zeros 8) refl) refl (AllBits-table (zeros 6) refl)).0 refl

access_of_another_cell : (burst : List ℤ) (info : List ℕ) (r : ReceivedAccess) → r.u ≡ zeros 18 → r.accepted ≡ Some info →
    IsMostLikelyAccessWord burst (zeros 6) r → ⊥
access_of_another_cell burst info r is some h =
    let word : IsRachCodeword (zeros 8 ++ zeros 6) (zeros 6) = (rw (is, some) at h.accepted).0 in
    absurd (cc (one_rach_crc (zeros 8) (zeros 6) (ones 6) (zeros 6) refl word right_for_another_cell))

access_kept_back : (burst : List ℤ) (r : ReceivedAccess) → r.u ≡ zeros 18 → r.accepted ≡ None →
    IsMostLikelyAccessWord burst (ones 6) r → ⊥
access_kept_back burst r is none h = (rw (is, none) at h.accepted) right_access

-- ## Synchronisation bursts: The check bits of 25 zeros are ones.

right_sync : IsSchCodeword (zeros 25 ++ ones 10)
unfolding sch_crc low_bits
right_sync = (is_sch_crc (zeros 25) (ones 10) refl (AllBits-table (zeros 25) refl)).0 refl

sync_against_its_crc : (burst : List ℤ) (info : List ℕ) (r : ReceivedSync) → r.u ≡ zeros 39 → r.accepted ≡ Some info →
    IsMostLikelySyncWord burst r → ⊥
sync_against_its_crc burst info r is some h =
    let word : IsSchCodeword (zeros 25 ++ zeros 10) = (rw (is, some) at h.accepted).0 in
    absurd (cc (one_sch_crc (zeros 25) (zeros 10) (ones 10) refl word right_sync))

sync_kept_back : (burst : List ℤ) (r : ReceivedSync) → r.u ≡ zeros 25 ++ ones 10 ++ zeros 4 → r.accepted ≡ None →
    IsMostLikelySyncWord burst r → ⊥
sync_kept_back burst r is none h = (rw (is, none) at h.accepted) right_sync

-- ## Lines: A completed block and a single burst are not passed over, and a skipped line is not answered.

silent_report : (r : Received) → IsBlockReportText r [] → ⊥
silent_report r report = by r.accepted report
  where
    by : (accepted : Option (List ℕ)) → MatchOption accepted ([] ≡ block_report_line r)
        (λ octets. (second : List ℕ) × IsTextOfOctets octets second × ([] ≡ block_report_line r ++ second)) → ⊥
    by None same = not_silent (block_report_line r) refl same
    by (Some octets) (second, is, same) = not_silent (block_report_line r ++ second) refl same

silent_block : (held : List (List ℤ)) (burst : List ℤ) → IsReportOfMostLikelyWord held (Normal burst) [] → ⊥
silent_block held burst (r, word, report) = silent_report r report

silent_access : (held : List (List ℤ)) (bsic : List ℕ) (burst : List ℤ) →
    IsReportOfMostLikelyWord held (Access bsic burst) [] → ⊥
silent_access held bsic burst (r, word, same) = not_silent (access_report_text bsic r) refl same

silent_sync : (held : List (List ℤ)) (burst : List ℤ) → IsReportOfMostLikelyWord held (Sync burst) [] → ⊥
silent_sync held burst (r, word, same) = not_silent (sync_report_text r) refl same

answered_comment : (held : List (List ℤ)) (x : ℕ) (text : List ℕ) → IsReportOfMostLikelyWord held Skip (x ∷ text) → ⊥
answered_comment held x text same = not_silent (x ∷ text) refl (sym same)
