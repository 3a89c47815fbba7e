-- A received block of FACCH is a received block of four bursts, but for the training bits; the report is unique.
use Rattle.{
  half_bursts.proofs.{Again.joins_again, Halves.IsBurst, Stolen.length-stolen},
  half_bursts.specs.Halves.{AreCarried, coded_values, joined_block, stolen},
  std.proofs.Common.{List, Option, Some, ap, ap₂, arith, length, map, pos, refl, subst, sym, ℕ, ℤ, ◌<◌, ◌≡◌, ◌∙◌},
  std.proofs.Common.{◌≤◌},
  std.proofs.lemmas.List.{ext_get_or, length-map},
  std.specs.{List.All, Prelude.{IsSome, MatchOption}},
  um_block.proofs.{burst_map.training_seq.Lemmas.one_first_greatest, conv_code.Lemmas.IsMostLikely-only},
  um_block.proofs.Lemmas.{clean_block, one_coded_block, parts_of_bursts, restored_block, sent_block_bits, some_received_block},
  um_block.specs.{declared.received.Received.Received, interleave.Bursts.IsInterleaved, bit_blocks.SoftValues.likelihood},
  um_block.specs.{weight_bound.Restoring.IsCorrectable},
  um_block.specs.Received.{IsReceivedBlock, coded_soft_bits, soft_bit_of, soft_bits},
  um_block.specs.{Restored.IsErrorFreeBlock, Sent.{IsCodedBlock, IsSentBlock}},
  um_block.specs.conv_code.{Code.{IsEncoderInput, encoding}, Likelihood.IsMostLikely},
  um_facch.proofs.CleanTraining.one_sequence,
  um_facch.specs.{Facch.{IsListDecodedFacch, IsReceivedFacch, IsSentFacch}, Training.{IsDetectedTsc, wrong_training_of_all}},
  um_list_receive.proofs.Lemmas.{octets_if_crc_holds, taken_at_once, taken_information, taken_once},
  um_list_receive.specs.{ListDecoding.{BlockCrcHolds, IsBlockChoice}, declared.reports.ListDecodedBlock.ListDecodedBlock},
}

-- ## Sent

-- a block that is sent has four bursts of 148 bits
pub sent_shape : (octets : List ℕ) (tsc : ℕ) (block : List (List ℕ)) → IsSentBlock octets tsc block →
    (length block ≡ 4) × All IsBurst block
sent_shape octets tsc block s =
    let shape = sent_block_bits octets tsc block s in
    (shape.0, λ b d lt. (shape.1 b d lt).right_length)

-- its coded bits are interleaved in it
pub coded_values_of_block : (octets coded : List ℕ) (tsc : ℕ) (block : List (List ℕ)) → IsSentBlock octets tsc block →
    IsCodedBlock octets coded → IsInterleaved coded (map coded_values block)
coded_values_of_block octets coded tsc block s code =
    let parts = sym (ap (map coded_values) s.layout ∙ parts_of_bursts s.interleaved_bits tsc s.valid_tsc s.interleaved.burst_lengths) in
    rw (← one_coded_block octets s.coded_bits coded s.code code, ← parts) s.interleaved

-- ## Received

same_carried : (coded coded' : List ℤ) (bursts : List (List ℤ)) → AreCarried coded bursts → AreCarried coded' bursts →
    coded ≡ coded'
same_carried coded coded' bursts h g =
    ext_get_or (pos 0) coded coded' (h.coded_count ∙ sym g.coded_count)
    (λ k lt. let small : k < 456 = omega (arith, h.coded_count) in sym (h.positions k (pos 0) small) ∙ g.positions k (pos 0) small)

one_accepted : {X : Type 0} (P : Type 0) (x : X) (a b : Option X) →
    MatchOption a (¬ P) (λ v. P × (v ≡ x)) → MatchOption b (¬ P) (λ v. P × (v ≡ x)) → a ≡ b
one_accepted P x a b h g = grind arith

pub one_received : (bursts : List (List ℤ)) (r r' : Received) → IsReceivedFacch bursts r → IsReceivedFacch bursts r' → r ≡ r'
one_received bursts r r' h g =
    let soft = same_carried h.soft g.soft bursts h.carried g.carried in
    let u = IsMostLikely-only g.soft r'.u r.u g.best (rw (← soft) h.best) in
    let tsc = one_first_greatest _ _ _ _ h.tsc g.tsc in
    let accepted = one_accepted _ _ r.accepted r'.accepted (rw u at h.accepted) g.accepted in
    grind (arith, soft, u, tsc, accepted)

-- ## Of more than one word

-- the most likely word of the soft bits that the bursts carry
pub first_word : (bursts : List (List ℤ)) (r : Received) (soft : List ℤ) → IsReceivedFacch bursts r → AreCarried soft bursts →
    IsMostLikely soft r.u × (r.metric ≡ likelihood soft (encoding r.u))
first_word bursts r soft is carried =
    let same : is.soft ≡ soft = same_carried is.soft soft bursts is.carried carried in
    (subst (λ s. IsMostLikely s r.u) same is.best, is.metric ∙ ap (λ s. likelihood s (encoding r.u)) same)

pub at_once : (bursts : List (List ℤ)) (most : ℕ) (r : Received) → 1 ≤ most → IsReceivedFacch bursts r → IsSome r.accepted →
    IsListDecodedFacch bursts most (record { report = r; rank = 1 })
at_once bursts most r some is accepted = record {
  soft = is.soft;
  carried = is.carried;
  choice = taken_at_once BlockCrcHolds is.soft most octets_if_crc_holds r.u r.accepted some is.best is.accepted accepted;
  metric = is.metric;
  tsc = is.tsc;
  wrong_training = is.wrong_training;
}

-- the report of the list decoder after the most likely word, whose CRC is wrong
pub later : (bursts : List (List ℤ)) (soft : List ℤ) (most : ℕ) (first : Received) (d : ListDecodedBlock) →
    AreCarried soft bursts →
    IsReceivedFacch bursts first → IsBlockChoice soft most d.rank d.report.u d.report.accepted →
    d.report.metric ≡ likelihood soft (encoding d.report.u) →
    (d.report.tsc ≡ first.tsc) × (d.report.wrong_training ≡ first.wrong_training) → IsListDecodedFacch bursts most d
later bursts soft most first d carried received choice metric training = record {
  soft = soft;
  carried = carried;
  choice = choice;
  metric = metric;
  tsc = subst (IsDetectedTsc bursts) (sym training.0) received.tsc;
  wrong_training = training.1 ∙ received.wrong_training ∙ ap (wrong_training_of_all bursts) (sym training.0);
}

pub information : (bursts : List (List ℤ)) (most : ℕ) (d : ListDecodedBlock) → IsListDecodedFacch bursts most d →
    IsEncoderInput d.report.u
information bursts most d is =
    taken_information BlockCrcHolds is.soft most octets_if_crc_holds d.rank d.report.u d.report.accepted is.choice

same_report : {rank rank' : ℕ} {u u' : List ℕ} {metric metric' : ℤ} {tsc tsc' wrong wrong' : ℕ}
    {accepted accepted' : Option (List ℕ)} →
    rank ≡ rank' → u ≡ u' → metric ≡ metric' → tsc ≡ tsc' → wrong ≡ wrong' → accepted ≡ accepted' →
    let made : ListDecodedBlock =
    record { report = record { u = u; metric = metric; tsc = tsc; wrong_training = wrong; accepted = accepted }; rank = rank } in
    let made' : ListDecodedBlock = record {
      report = record { u = u'; metric = metric'; tsc = tsc'; wrong_training = wrong'; accepted = accepted' };
      rank = rank';
    } in
    made ≡ made'
same_report hr hu hm ht hw ha = cc

pub one_among : (bursts : List (List ℤ)) (most : ℕ) (r r' : ListDecodedBlock) → IsListDecodedFacch bursts most r →
    IsListDecodedFacch bursts most r' → r ≡ r'
one_among bursts most r r' h g =
    let soft = same_carried h.soft g.soft bursts h.carried g.carried in
    let same = taken_once BlockCrcHolds g.soft most octets_if_crc_holds r.rank r'.rank r.report.u r'.report.u
    r.report.accepted r'.report.accepted
    (subst (λ s. IsBlockChoice s most r.rank r.report.u r.report.accepted) soft h.choice) g.choice in
    let tsc = one_first_greatest _ _ _ _ h.tsc g.tsc in
    same_report same.0 same.1 (h.metric ∙ ap₂ (λ s v. likelihood s (encoding v)) soft same.1 ∙ sym g.metric) tsc
    (h.wrong_training ∙ ap (wrong_training_of_all bursts) tsc ∙ sym g.wrong_training) same.2

pub first_taken : (bursts : List (List ℤ)) (most : ℕ) (d : ListDecodedBlock) → 1 ≤ most → IsListDecodedFacch bursts most d →
    (r : Received) → IsReceivedFacch bursts r → IsSome r.accepted → d ≡ record { report = r; rank = 1 }
first_taken bursts most d some decoded r is accepted =
    one_among bursts most d (record { report = r; rank = 1 }) decoded (at_once bursts most r some is accepted)

-- ## As a block

-- the report of the four bursts of the block, of which the word, the metric and the octets are the same
module _ (block bursts : List (List ℤ)) (r : Received) (four : length block ≡ 4) (each : All IsBurst block)
    (is : IsReceivedFacch bursts r) (spread : IsInterleaved is.soft (map coded_soft_bits block)) where
  of_block : (t : Received) × IsReceivedBlock block t × (t.u ≡ r.u) × (t.metric ≡ r.metric) × (t.accepted ≡ r.accepted)
  of_block =
      let other = some_received_block block four each in (
        record {
          u = r.u;
          metric = r.metric;
          tsc = other.0.tsc;
          wrong_training = other.0.wrong_training;
          accepted = r.accepted;
        },
        record {
          soft = is.soft;
          deinterleaved = spread;
          best = is.best;
          metric = is.metric;
          tsc = other.1.tsc;
          wrong_training = other.1.wrong_training;
          accepted = is.accepted;
        },
        refl,
        refl,
        refl,
      )

  pub restored : (octets coded : List ℕ) (soft : List ℤ) → IsCodedBlock octets coded →
      IsInterleaved soft (map coded_soft_bits block) →
      IsCorrectable soft coded → r.accepted ≡ Some octets
  restored octets coded soft code carried damage =
      sym of_block.4 ∙ restored_block block octets coded soft of_block.0 code carried damage of_block.1

  pub clean : (octets : List ℕ) (tsc : ℕ) (old sent : List (List ℕ)) → IsSentFacch octets tsc old sent → 4 ≤ length bursts →
      length bursts ≤ 8 → bursts ≡ map soft_bits sent → block ≡ joined_block (pos 0) bursts → IsErrorFreeBlock octets tsc r
  clean octets tsc old sent s some few same joined =
      let shape = sent_shape octets tsc s.block s.sent in
      let bursts_are : bursts ≡ map soft_bits (stolen s.block old) = same ∙ ap (map soft_bits) s.halves in
      let count : length bursts ≡ length old =
      ap length bursts_are ∙ length-map (stolen s.block old) soft_bits ∙ length-stolen s.block old in
      let again : block ≡ map soft_bits s.block =
      joined ∙ ap (joined_block (pos 0)) bursts_are
      ∙ joins_again s.block old soft_bit_of shape.0 shape.1 (omega (arith, count)) (omega (arith, count)) in
      let heard = subst (λ b. IsReceivedBlock b of_block.0) again of_block.1 in
      let e = clean_block octets tsc s.block of_block.0 s.sent heard in
      let known = one_sequence octets tsc s.block old s.sent shape.1 shape.0 (omega (arith, count)) of_block.0 heard e in
      let sequence : r.tsc ≡ tsc = one_first_greatest _ _ _ _ (subst (λ b. IsDetectedTsc b r.tsc) bursts_are is.tsc) known.0 in
      record {
        information = rw of_block.2 at e.information;
        accepted = sym of_block.4 ∙ e.accepted;
        tsc = sequence;
        wrong_training = is.wrong_training ∙ ap₂ wrong_training_of_all bursts_are sequence ∙ known.1;
        metric = sym of_block.3 ∙ e.metric;
      }
