-- The report on a block that was decoded with erasures is unique.
use Rattle.{
  std.proofs.Common.{List, None, Option, Some, [], All, ap, arith, map, pos, refl, sym, ℕ, ℤ, ◌∙◌, ◌≡◌},
  std.{proofs.lemmas.List.{ext_get_or, get_or-map, length-map}, specs.Prelude.MatchOption},
  um_block.specs.{bit_blocks.SoftValues.{AllSoftBits, IsSoftBit}, Received.coded_soft_bits, interleave.Bursts.IsInterleaved},
  um_c.{
    proofs.Calls.equal_reports,
    specs.{Reports.ReportsBlock, SlotCalls.{IsErasingReport, decoded_bursts}},
    specs.declared.{blocks.BlockReport.BlockReport, erasing.Erasure.Erasure},
  },
  um_erasing.{
    proofs.Lemmas.one_erasing,
    specs.{Erasing.{IsErasingDecodedBlock, without_burst}, declared.blocks.ErasingDecodedBlock.ErasingDecodedBlock},
  },
  um_slot.specs.Slots.softened,
}

-- the number that tells which burst was erased, `none` if none was
pub one_erased : (none : ℕ) (erased : Option ℕ) (a b : ℕ) → MatchOption erased (a ≡ none) (λ index. a ≡ index) →
    MatchOption erased (b ≡ none) (λ index. b ≡ index) → a ≡ b
one_erased none None a b h g = h ∙ sym g
one_erased none (Some i) a b h g = h ∙ sym g

pub one_erasing_report : (bursts : List (List ℤ)) (most erasures rank rank' : ℕ) (report report' : BlockReport)
    (erasure erasure' : Erasure) →
    IsErasingReport bursts most erasures rank report erasure → IsErasingReport bursts most erasures rank' report' erasure' →
    (rank ≡ rank') × (report ≡ report') × (erasure ≡ erasure')
one_erasing_report bursts most erasures rank rank' report report' erasure erasure' h g =
    let same : h.received ≡ g.received = one_erasing bursts most erasures h.received g.received h.is_received g.is_received in (
      rw (h.same_rank, g.same_rank, same) refl,
      equal_reports (decoded_bursts bursts g.received.erased) g.soft g.received.block.report g.received.block.report report report'
          g.deinterleaved refl (rw same at h.reports_block) g.reports_block,
      λ i. record {
        erased = one_erased 4 g.received.erased erasure.erased erasure'.erased (rw same at h.erased) g.erased i;
        wrong_training = (h.wrong_training ∙ ap (λ (d : ErasingDecodedBlock). d.wrong_training) same ∙ sym g.wrong_training) i;
      },
    )

-- a block that was decoded without one burst
pub erased_report : (bursts rest : List (List ℤ)) (most erasures index : ℕ) (received : ErasingDecodedBlock) (soft : List ℤ)
    (report : BlockReport) → IsErasingDecodedBlock bursts most erasures received → received.erased ≡ Some index →
    rest ≡ without_burst bursts index → IsInterleaved soft (map coded_soft_bits rest) →
    ReportsBlock rest received.block.report report →
    IsErasingReport bursts most erasures received.block.rank report
    (record { erased = index; wrong_training = received.wrong_training })
erased_report bursts rest most erasures index received soft report is_received is without deinterleaved reports = record {
  received = received;
  is_received = is_received;
  soft = soft;
  deinterleaved = rw (is, ← without) deinterleaved;
  reports_block = rw (is, ← without) reports;
  same_rank = refl;
  wrong_training = refl;
  erased = rw is refl;
}

-- ## Softened: soft bits stay as they are.

softened_bit : (x : ℤ) → IsSoftBit x → softened x ≡ x
softened_bit (pos n) h = refl
softened_bit x h = grind arith

softened_burst : (burst : List ℤ) → AllSoftBits burst → map softened burst ≡ burst
softened_burst burst h =
    let long = length-map burst softened in
    ext_get_or (pos 0) (map softened burst) burst (omega arith)
    (λ k lt. get_or-map softened burst k (pos 0) (pos 0) (omega arith) ∙ softened_bit _ (h k (pos 0) (omega arith)))

pub softened_bursts : (bursts : List (List ℤ)) → All AllSoftBits bursts → map (map softened) bursts ≡ bursts
softened_bursts bursts h =
    let long = length-map bursts (map softened) in
    ext_get_or [] (map (map softened) bursts) bursts (omega arith)
    (λ k lt. get_or-map (map softened) bursts k [] [] (omega arith) ∙ softened_burst _ (h k [] (omega arith)))
