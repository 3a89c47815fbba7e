-- The reports on blocks of FACCH: only one for each reception, and how the calls come by it.
use Rattle.{
  half_bursts.{proofs.Halves.IsBurst-joined, specs.Halves.joined_block},
  std.proofs.Common.{List, None, Some, ap, pos, refl, sym, ℕ, ℤ, ◌∙◌, ◌≡◌, ◌≤◌},
  std.specs.Prelude.MatchOption,
  um_block.{
    proofs.Lemmas.some_received_block,
    specs.{
      Received.IsReceivedBlock,
      declared.received.Received.Received,
    },
  },
  um_erasing.{
    proofs.ErasingFacch.{facch_at_once, one_erasing_facch},
    specs.{ErasingFacch.IsErasingDecodedFacch, declared.facch.ErasingDecodedFacch.ErasingDecodedFacch},
  },
  um_facch.specs.{Facch.IsReceivedFacch, Training.wrong_training_of_each},
  um_c.{
    proofs.{Calls.equal_reports, ErasingReports.one_erased},
    specs.{
      FacchReports.{IsFacchReport, decoded_block},
      Reports.ReportsBlock,
      SlotCalls.decoded_bursts,
      declared.{blocks.BlockReport.BlockReport, facch_erasing.FacchErasure.FacchErasure},
    },
  },
}

-- the joined block is received, with a training sequence
pub joined_received : (bursts : List (List ℤ)) → (r : Received) × IsReceivedBlock (joined_block (pos 0) bursts) r
joined_received bursts = some_received_block (joined_block (pos 0) bursts) refl (IsBurst-joined (pos 0) bursts)

pub one_facch_report : (bursts : List (List ℤ)) (most erasures rank rank' : ℕ) (report report' : BlockReport)
    (erasure erasure' : FacchErasure) → IsFacchReport bursts most erasures rank report erasure →
    IsFacchReport bursts most erasures rank' report' erasure' → (rank ≡ rank') × (report ≡ report') × (erasure ≡ erasure')
one_facch_report bursts most erasures rank rank' report report' erasure erasure' h g =
    let same : h.received ≡ g.received = one_erasing_facch bursts most erasures h.received g.received h.is_received g.is_received in
    let other = joined_received (decoded_bursts bursts g.received.erased) in (
      rw (h.same_rank, g.same_rank, same) refl,
      equal_reports (decoded_block bursts g.received.erased) other.1.soft g.received.block.report g.received.block.report report report'
          other.1.deinterleaved refl (rw same at h.reports_block) g.reports_block,
      λ i. record {
        erased = one_erased 8 g.received.erased erasure.erased erasure'.erased (rw same at h.erased) g.erased i;
        wrong_training = (h.wrong_training ∙ ap (λ (d : ErasingDecodedFacch). d.wrong_training) same ∙ sym g.wrong_training) i;
      },
    )

-- a block whose first word is accepted
pub accepted_report : (bursts block : List (List ℤ)) (most erasures : ℕ) (r : Received) (wrong octets : List ℕ)
    (report : BlockReport) → 1 ≤ most → IsReceivedFacch bursts r → wrong ≡ wrong_training_of_each bursts r.tsc →
    r.accepted ≡ Some octets →
    block ≡ joined_block (pos 0) bursts → ReportsBlock block r report →
    IsFacchReport bursts most erasures 1 report (record { erased = 8; wrong_training = wrong })
accepted_report bursts block most erasures r wrong octets report some received counted accepted joined reports = record {
  received = record { block = record { report = r; rank = 1 }; erased = None; wrong_training = wrong };
  is_received = facch_at_once bursts most erasures r wrong octets some received counted accepted;
  reports_block = rw joined at reports;
  same_rank = refl;
  wrong_training = refl;
  erased = refl;
}

-- a block that was decoded with the bursts that are left
pub later_report : (bursts block : List (List ℤ)) (most erasures : ℕ) (received : ErasingDecodedFacch) (index rank : ℕ)
    (report : BlockReport) (erasure : FacchErasure) → IsErasingDecodedFacch bursts most erasures received →
    block ≡ decoded_block bursts received.erased → MatchOption received.erased (index ≡ 8) (λ i. index ≡ i) →
    ReportsBlock block received.block.report report → rank ≡ received.block.rank →
    erasure ≡ record { erased = index; wrong_training = received.wrong_training } →
    IsFacchReport bursts most erasures rank report erasure
later_report bursts block most erasures received index rank report erasure is_received is erased reports same_rank same = record {
  received = received;
  is_received = is_received;
  reports_block = rw is at reports;
  same_rank = same_rank;
  wrong_training = rw same refl;
  erased = rw same erased;
}
