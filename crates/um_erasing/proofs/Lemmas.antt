-- The report is unique, and how the calls come by it.
use Rattle.{
  std.proofs.Common.{arith, List, None, Option, Some, map, refl, set, suc, sym, zero, ℕ, ℤ, ◌+◌, ◌-◌},
  std.proofs.Common.{◌∙◌},
  std.{proofs.Common.{◌≡◌, ◌≢◌, ◌≤◌}, specs.Prelude.MatchOption},
  um_list_receive.specs.{declared.reports.ListDecodedBlock.ListDecodedBlock, ListDecoding.{IsBlockChoice, IsListDecodedBlock}},
  um_list_receive.proofs.Lemmas.{block_at_once, one_block_among},
  um_block.specs.{bit_blocks.SoftValues.likelihood, conv_code.Code.encoding, declared.received.Received.Received},
  um_block.specs.{interleave.Bursts.IsInterleaved},
  um_block.specs.Received.{IsReceivedBlock, coded_soft_bits},
  um_erasing.specs.{Erasing.wrong_training_of_bursts},
  um_erasing.specs.Erasing.{IsErasingDecodedBlock, IsErasingSearch, IsFoundOrFirst, index_of_greatest, without_burst},
  um_erasing.specs.declared.blocks.{ErasedBlock.ErasedBlock, ErasingDecodedBlock.ErasingDecodedBlock},
}

one_answer : {X : Type 0} (P : Option ErasedBlock → Type 0) (accepted : Option X) (a b : Option ErasedBlock) (e : Option ErasedBlock) →
    ((x y : Option ErasedBlock) → P x → P y → x ≡ y) →
    MatchOption accepted (P a) (λ _. a ≡ e) → MatchOption accepted (P b) (λ _. b ≡ e) → a ≡ b
one_answer P None a b e one h g = one a b h g
one_answer P (Some x) a b e one h g = h ∙ sym g

one_found : (first : ListDecodedBlock) (found : Option ErasedBlock) (block block' : ListDecodedBlock) (erased erased' : Option ℕ) →
    IsFoundOrFirst first found block erased → IsFoundOrFirst first found block' erased' → (block ≡ block') × (erased ≡ erased')
one_found first None block block' erased erased' h g = (h.0 ∙ sym g.0, h.1 ∙ sym g.1)
one_found first (Some e) block block' erased erased' h g = (h.0 ∙ sym g.0, h.1 ∙ sym g.1)

pub refused_now : {X : Type 0} (accepted : Option X) (P Q : Type 0) → accepted ≡ None → P → MatchOption accepted P (λ _. Q)
refused_now accepted P Q none p = rw none p

-- ## Of any number of bursts, whatever these are decoded to

module _ (last : ℕ) (IsDecoded : List (List ℤ) → ListDecodedBlock → Type 0) (bursts : List (List ℤ)) where
  abbrev Search : ℕ → List ℕ → Option ErasedBlock → Type 0
  Search n distrust found = IsErasingSearch last IsDecoded bursts n distrust found

  module _ (count : ℕ) (distrust : List ℕ) (some : count ≢ 0) (d : ListDecodedBlock)
      (decoded : IsDecoded (without_burst bursts (index_of_greatest last distrust)) d) where
    pub found_now : (x : List ℕ) → d.report.accepted ≡ Some x →
        Search count distrust (Some (record { block = d; erased = index_of_greatest last distrust }))
    found_now x accepted = let e : count ≡ suc (count - 1) = omega (arith, some) in rw e (d, decoded, rw accepted refl)

    pub found_later : (found : Option ErasedBlock) → d.report.accepted ≡ None →
        Search (count - 1) (set distrust (index_of_greatest last distrust) 0) found → Search count distrust found
    found_later found refused later = let e : count ≡ suc (count - 1) = omega (arith, some) in rw e (d, decoded, rw refused later)

  module _ (one : (rest : List (List ℤ)) (d d' : ListDecodedBlock) → IsDecoded rest d → IsDecoded rest d' → d ≡ d') where
    one_search : (n : ℕ) (distrust : List ℕ) (a b : Option ErasedBlock) → Search n distrust a → Search n distrust b → a ≡ b
    one_search zero distrust a b h g = h ∙ sym g
    one_search (suc n) distrust a b h g =
        let index : ℕ = index_of_greatest last distrust in
        let same : g.0 ≡ h.0 = one (without_burst bursts index) g.0 h.0 g.1 h.1 in
        one_answer (Search n (set distrust index 0)) h.0.report.accepted a b (Some (record { block = h.0; erased = index }))
        (one_search n (set distrust index 0)) h.2 (rw same at g.2)

    pub one_choice : (erasures : ℕ) (first : ListDecodedBlock) (distrust : List ℕ) (accepted : Option (List ℕ))
        (block block' : ListDecodedBlock) (erased erased' : Option ℕ) →
        MatchOption accepted ((found : Option ErasedBlock) × Search erasures distrust found × IsFoundOrFirst first found block erased)
        (λ _. (block ≡ first) × (erased ≡ None)) →
        MatchOption accepted ((found : Option ErasedBlock) × Search erasures distrust found × IsFoundOrFirst first found block' erased')
        (λ _. (block' ≡ first) × (erased' ≡ None)) →
        (block ≡ block') × (erased ≡ erased')
    one_choice erasures first distrust None block block' erased erased' h g =
        let same : g.0 ≡ h.0 = one_search erasures distrust g.0 h.0 g.1 h.1 in
        one_found first h.0 block block' erased erased' h.2 (rw same at g.2)
    one_choice erasures first distrust (Some x) block block' erased erased' h g = (h.0 ∙ sym g.0, h.1 ∙ sym g.1)

-- ## Of the four bursts of a block

abbrev Block : ℕ → List (List ℤ) → ListDecodedBlock → Type 0
Block most rest block = IsListDecodedBlock rest most block

pub one_erasing : (bursts : List (List ℤ)) (most erasures : ℕ) (r r' : ErasingDecodedBlock) →
    IsErasingDecodedBlock bursts most erasures r → IsErasingDecodedBlock bursts most erasures r' → r ≡ r'
one_erasing bursts most erasures r r' h g =
    let first : h.first ≡ g.first = one_block_among bursts most h.first g.first h.first_is_decoded g.first_is_decoded in
    let wrong : r.wrong_training ≡ r'.wrong_training =
    rw (h.wrong_training, g.wrong_training, first) refl in
    let same = one_choice 3 (Block most) bursts (λ rest. one_block_among rest most) erasures g.first
    (map (λ w. w + 1) r'.wrong_training) g.first.report.accepted r.block r'.block r.erased r'.erased (rw (first, wrong) at h.choice)
    g.choice in
    λ i. record { block = same.0 i; erased = same.1 i; wrong_training = wrong i }

-- the report of the list decoder after the most likely word, whose CRC is wrong
pub later_decoded : (bursts : List (List ℤ)) (soft : List ℤ) (most : ℕ) (first : Received) (d : ListDecodedBlock) →
    IsInterleaved soft (map coded_soft_bits bursts) → IsReceivedBlock bursts first →
    IsBlockChoice soft most d.rank d.report.u d.report.accepted → d.report.metric ≡ likelihood soft (encoding d.report.u) →
    (d.report.tsc ≡ first.tsc) × (d.report.wrong_training ≡ first.wrong_training) → IsListDecodedBlock bursts most d
later_decoded bursts soft most first d spread received choice metric training = record {
  soft = soft;
  deinterleaved = spread;
  choice = choice;
  metric = metric;
  tsc = rw training.0 received.tsc;
  wrong_training = rw (training.1, training.0) received.wrong_training;
}

-- the first word is accepted
pub accepted_at_once : (bursts : List (List ℤ)) (most erasures : ℕ) (r : Received) (wrong octets : List ℕ) → 1 ≤ most →
    IsReceivedBlock bursts r → wrong ≡ wrong_training_of_bursts bursts r.tsc → r.accepted ≡ Some octets →
    IsErasingDecodedBlock bursts most erasures
    (record { block = record { report = r; rank = 1 }; erased = None; wrong_training = wrong })
accepted_at_once bursts most erasures r wrong octets some received counted accepted = record {
  first = record { report = r; rank = 1 };
  first_is_decoded = block_at_once bursts most r some received (rw accepted refl);
  wrong_training = counted;
  choice = rw accepted (refl, refl);
}

pub searched : (bursts : List (List ℤ)) (most erasures : ℕ) (first : ListDecodedBlock) (wrong distrust : List ℕ)
    (found : Option ErasedBlock)
    (block : ListDecodedBlock) (erased : Option ℕ) →
    IsListDecodedBlock bursts most first → wrong ≡ wrong_training_of_bursts bursts first.report.tsc →
    first.report.accepted ≡ None →
    distrust ≡ map (λ w. w + 1) wrong → IsErasingSearch 3 (Block most) bursts erasures distrust found →
    IsFoundOrFirst first found block erased →
    IsErasingDecodedBlock bursts most erasures (record { block = block; erased = erased; wrong_training = wrong })
searched bursts most erasures first wrong distrust found block erased decoded counted refused weighed answered given = record {
  first = first;
  first_is_decoded = decoded;
  wrong_training = counted;
  choice = refused_now first.report.accepted _ _ refused (found, rw weighed at answered, given);
}
