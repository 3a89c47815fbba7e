-- The report on a block of FACCH is unique.
use Rattle.{
  std.proofs.Common.{List, None, Option, Some, map, refl, set, take, ℕ, ℤ, ◌++◌, ◌+◌, ◌-◌},
  std.proofs.{Common.{◌<◌, ◌∙◌, ◌≡◌, ◌≤◌, length}, Math.Seq.{take-append_seam, take-set-lt}},
  um_block.specs.declared.received.Received.Received,
  um_erasing.proofs.Lemmas.{one_choice, refused_now},
  um_erasing.specs.{Erasing.{IsErasingSearch, IsFoundOrFirst}, ErasingFacch.IsErasingDecodedFacch},
  um_erasing.specs.declared.{blocks.ErasedBlock.ErasedBlock, facch.ErasingDecodedFacch.ErasingDecodedFacch},
  um_facch.{proofs.Lemmas.{at_once, one_among}, specs.{Facch.{IsListDecodedFacch, IsReceivedFacch}, Training.wrong_training_of_each}},
  um_list_receive.specs.declared.reports.ListDecodedBlock.ListDecodedBlock,
}

-- ## The bursts without one of them, in the first rows of eight

pub erased_rows : (bursts copied rest : List (List ℤ)) (index at : ℕ) (zeros : List ℤ) → copied ≡ bursts → at ≡ index →
    index < length bursts → take (length bursts) (set (copied ++ rest) at zeros) ≡ set bursts index zeros
erased_rows bursts copied rest index at zeros same is lt =
    rw (same, is) (take-set-lt (length bursts) (bursts ++ rest) index zeros lt ∙ rw (take-append_seam bursts rest) refl)

-- ## The report

abbrev pub Carried : ℕ → List (List ℤ) → ListDecodedBlock → Type 0
Carried most rest block = IsListDecodedFacch rest most block

pub one_erasing_facch : (bursts : List (List ℤ)) (most erasures : ℕ) (r r' : ErasingDecodedFacch) →
    IsErasingDecodedFacch bursts most erasures r → IsErasingDecodedFacch bursts most erasures r' → r ≡ r'
one_erasing_facch bursts most erasures r r' h g =
    let first : h.first ≡ g.first = one_among bursts most h.first g.first h.first_is_decoded g.first_is_decoded in
    let wrong : r.wrong_training ≡ r'.wrong_training =
    rw (h.wrong_training, g.wrong_training, first) refl in
    let same = one_choice (length bursts - 1) (Carried most) bursts (λ rest. one_among rest most) erasures g.first
    (map (λ w. w + 1) r'.wrong_training) g.first.report.accepted r.block r'.block r.erased r'.erased (rw (first, wrong) at h.choice)
    g.choice in
    λ i. record { block = same.0 i; erased = same.1 i; wrong_training = wrong i }

pub first_accepted_facch : (bursts : List (List ℤ)) (most erasures : ℕ) (first : ListDecodedBlock) (wrong octets : List ℕ) →
    IsListDecodedFacch bursts most first → wrong ≡ wrong_training_of_each bursts first.report.tsc →
    first.report.accepted ≡ Some octets →
    IsErasingDecodedFacch bursts most erasures (record { block = first; erased = None; wrong_training = wrong })
first_accepted_facch bursts most erasures first wrong octets decoded counted accepted = record {
  first = first;
  first_is_decoded = decoded;
  wrong_training = counted;
  choice = rw accepted (refl, refl);
}

pub facch_at_once : (bursts : List (List ℤ)) (most erasures : ℕ) (r : Received) (wrong octets : List ℕ) → 1 ≤ most →
    IsReceivedFacch bursts r → wrong ≡ wrong_training_of_each bursts r.tsc → r.accepted ≡ Some octets →
    IsErasingDecodedFacch bursts most erasures
    (record { block = record { report = r; rank = 1 }; erased = None; wrong_training = wrong })
facch_at_once bursts most erasures r wrong octets some received counted accepted =
    first_accepted_facch bursts most erasures (record { report = r; rank = 1 }) wrong octets
    (at_once bursts most r some received (rw accepted refl)) counted accepted

pub searched_facch : (bursts : List (List ℤ)) (most erasures : ℕ) (first : ListDecodedBlock) (wrong distrust : List ℕ)
    (found : Option ErasedBlock) (block : ListDecodedBlock) (erased : Option ℕ) → IsListDecodedFacch bursts most first →
    wrong ≡ wrong_training_of_each bursts first.report.tsc → first.report.accepted ≡ None →
    distrust ≡ map (λ w. w + 1) wrong →
    IsErasingSearch (length bursts - 1) (Carried most) bursts erasures distrust found → IsFoundOrFirst first found block erased →
    IsErasingDecodedFacch bursts most erasures (record { block = block; erased = erased; wrong_training = wrong })
searched_facch bursts most erasures first wrong distrust found block erased decoded counted refused weighed answered given = record {
  first = first;
  first_is_decoded = decoded;
  wrong_training = counted;
  choice = refused_now first.report.accepted _ _ refused (found, rw weighed at answered, given);
}
