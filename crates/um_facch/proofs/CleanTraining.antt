-- The training bits of bursts that are received as they were sent: all of one sequence, also where a half is of another block.
use Rattle.{
  half_bursts.{proofs.{Halves.IsBurst, Stolen.{length-stolen, length-with_half, own_value}}, specs.Halves.{half_of_position, other_half}},
  half_bursts.specs.Halves.{stolen, stolen_burst, value_with_half, with_half},
  std.proofs.Common.{List, [], ap, append_assoc, arith, drop, get_or, inl, inr, length, length-append, lit<, map, pos, refl, replicate},
  std.proofs.Common.{suc, sym, take, zero, ℕ, ℤ, ◌%◌, ◌++◌, ◌+◌, ◌<ℤ◌, ◌<◌, ◌∙◌, ◌∷◌, ◌≡◌},
  std.proofs.Common.{◌≢◌, ◌≤ℤ◌, ◌≤◌},
  std.proofs.lemmas.{Bool.cases_lt, Int.ints, List.FromFn.get_or-map-range_with_len},
  std.proofs.lemmas.List.{drop-map, drop_at, ext_get_or, get_or-drop, get_or-map, get_or-take, get_or_past, length-drop, length-map},
  std.proofs.lemmas.List.{length-take, take-map, take_at},
  std.specs.{List.All, Prelude.slice_range},
  um_block.proofs.burst_map.training_seq.Lemmas.length-midamble,
  um_block.specs.{Received.{IsReceivedBlock, soft_bits}, Restored.IsErrorFreeBlock, Sent.IsSentBlock},
  um_block.specs.declared.received.Received.Received,
  um_block.specs.bit_blocks.SoftValues.{count_wrong_bits, likelihood},
  um_block.specs.burst_map.{NormalBurst.normal_burst, Tails.tail_bits, training_seq.Choice.{IsFirstMaximum, total_correlation}},
  um_block.specs.burst_map.training_seq.Choice.wrong_midamble_bits,
  um_block.specs.burst_map.training_seq.Sequences.midamble,
  um_facch.specs.Training.{IsDetectedTsc, midamble_or_zeros, wrong_training_of, wrong_training_of_all, wrong_training_of_first},
}

-- ## Of one burst

abbrev training_bits : {X : Type 0} → List X → List X
training_bits burst = slice_range burst 61 87

of_normal_burst : (first second : List ℕ) (tsc : ℕ) → length first ≡ 57 → tsc ≤ 7 →
    training_bits (normal_burst first second tsc) ≡ midamble tsc
of_normal_burst first second tsc count known =
    let front = tail_bits ++ first ++ 1 ∷ [] in
    let back = 1 ∷ [] ++ second ++ tail_bits in
    let whole : normal_burst first second tsc ≡ front ++ (midamble tsc ++ back) =
    simp append_assoc (ap (λ xs. tail_bits ++ xs) (sym (append_assoc first (1 ∷ []) _))) in
    let before : length front ≡ 61 = simp length-append (omega (arith, count)) in
    ap training_bits whole
    ∙ ap (take 26) (drop_at front (midamble tsc ++ back) 61 before)
    ∙ take_at (midamble tsc) back 26 (length-midamble tsc known)

of_no_half : (half k : ℕ) → k < 26 → half ≢ 0 → half_of_position (61 + k) ≢ half
of_no_half half k small some = grind arith

-- a burst keeps them if one half of it is of another
kept : (half : ℕ) (burst old : List ℕ) → half ≢ 0 → length burst ≡ 148 →
    training_bits (with_half half burst old) ≡ training_bits burst
kept half burst old some long =
    let mixed = with_half half burst old in
    let size : (xs : List ℕ) → length xs ≡ 148 → length (training_bits xs) ≡ 26 =
    λ xs is. omega (arith, is, length-take 26 (drop 61 xs), length-drop 61 xs) in
    let count = size mixed (length-with_half half burst old) in
    ext_get_or 0 _ _ (count ∙ sym (size burst long)) (λ k lt.
    let small : k < 26 = omega (arith, lt, count) in
    let at : (xs : List ℕ) → get_or (training_bits xs) k 0 ≡ get_or xs (61 + k) 0 =
    λ xs. get_or-take 26 (drop 61 xs) k 0 small ∙ get_or-drop 61 xs k 0 in
    at mixed
    ∙ get_or-map-range_with_len (value_with_half 0 half burst old) 0 148 (61 + k) (61 + k) 0 (omega arith) (omega arith)
    ∙ own_value half burst old (61 + k) (of_no_half half k small some)
    ∙ sym (at burst))

softened : (bits : List ℕ) → training_bits (soft_bits bits) ≡ soft_bits (training_bits bits)
softened bits = simp (drop-map, take-map)

likelihood-zeros : (n : ℕ) (bits : List ℕ) → likelihood (replicate n (pos 0)) bits ≡ pos 0
likelihood-zeros zero bits = refl
likelihood-zeros (suc n) [] = refl
likelihood-zeros (suc n) (bit ∷ bits) = omega (arith, ints, likelihood-zeros n bits)

other_half-some : (n b : ℕ) → other_half n b ≢ 0
other_half-some n b = grind arith

-- ## Of all bursts that carry a block

module _ (octets : List ℕ) (tsc : ℕ) (block old : List (List ℕ)) (s : IsSentBlock octets tsc block) (each : All IsBurst block)
    (four : length block ≡ 4) where
  abbrev heard : List (List ℤ)
  heard = map soft_bits (stolen block old)

  abbrev own : List ℤ
  own = soft_bits (midamble tsc)

  of_block : (b : ℕ) → b < 4 → training_bits (get_or block b []) ≡ midamble tsc
  of_block b lt =
      let inside : b < length s.interleaved_bits = rw s.interleaved.burst_count lt in
      let part = get_or s.interleaved_bits b [] in
      let long = s.interleaved.burst_lengths b [] inside in
      rw (
        s.layout,
        get_or-map (λ part. normal_burst (take 57 part) (drop 57 part) tsc) s.interleaved_bits b [] [] inside,
      ) (of_normal_burst (take 57 part) (drop 57 part) tsc (omega (arith, length-take 57 part, long)) s.valid_tsc)

  pub in_block : (b : ℕ) → b < 4 → training_bits (get_or (map soft_bits block) b []) ≡ own
  in_block b lt =
      ap training_bits (get_or-map soft_bits block b [] [] (omega (arith, four)))
      ∙ softened (get_or block b []) ∙ ap soft_bits (of_block b lt)

  of_burst : (b : ℕ) → b < length old → midamble_or_zeros heard b ≡ own
  of_burst b lt =
      let burst = get_or block (b % 4) [] in
      let half = other_half (length old) b in
      let small : b % 4 < 4 = omega arith in
      ap training_bits (get_or-map soft_bits (stolen block old) b [] _ (omega (arith, length-stolen block old))
      ∙ ap soft_bits (get_or-map-range_with_len (stolen_burst block old) 0 (length old) b b [] lt (omega arith)))
      ∙ softened (with_half half burst (get_or old b []))
      ∙ ap soft_bits (kept half burst (get_or old b []) (other_half-some (length old) b) (each (b % 4) [] (omega (arith, four)))
      ∙ of_block (b % 4) small)

  of_none : (b : ℕ) → length old ≤ b → midamble_or_zeros heard b ≡ replicate 26 (pos 0)
  of_none b past =
      ap training_bits (get_or_past heard b _ (omega (arith, length-map (stolen block old) soft_bits, length-stolen block old)))

  -- how well a burst, if there is one, fits a training sequence, and how well the own one does
  abbrev fit : (b other : ℕ) → ℤ
  fit b t = likelihood (midamble_or_zeros heard b) (midamble t)

  abbrev own_fit : (other : ℕ) → ℤ
  own_fit t = likelihood own (midamble t)

  fit-less : (b t : ℕ) → own_fit t <ℤ own_fit tsc → fit b t ≤ℤ fit b tsc
  fit-less b t less = elim (cases_lt b (length old)) [
    | inl lt ↦ rw (of_burst b lt) (omega (arith, ints, less))
    | inr past ↦ rw (of_none b past, likelihood-zeros 26 (midamble t), likelihood-zeros 26 (midamble tsc)) (omega (arith, ints))
  ]

  fit-same : (b t : ℕ) → own_fit t ≡ own_fit tsc → fit b t ≡ fit b tsc
  fit-same b t same = elim (cases_lt b (length old)) [
    | inl lt ↦ rw (of_burst b lt) same
    | inr past ↦ rw (of_none b past, likelihood-zeros 26 (midamble t), likelihood-zeros 26 (midamble tsc)) refl
  ]

  -- the bursts of the block have one training sequence; so have all bursts
  pub detected : 4 ≤ length old → IsFirstMaximum (total_correlation own own own own) 7 tsc → IsDetectedTsc heard tsc
  detected some best = record {
    in_range = best.in_range;
    others = λ t h ne.
        let first : (b n : ℕ) → b < 4 → fit b n ≡ own_fit n =
        λ b n lt. ap (λ soft. likelihood soft (midamble n)) (of_burst b (omega (arith, some, lt))) in
        let at : (b : ℕ) → b < 4 → (fit b t ≡ own_fit t) × (fit b tsc ≡ own_fit tsc) = λ b lt. (first b t lt, first b tsc lt) in
        let a = at 0 (omega arith) in
        let b = at 1 (omega arith) in
        let c = at 2 (omega arith) in
        let d = at 3 (omega arith) in
        elim (best.others t h ne) [
          | inl less ↦
              let own_less : own_fit t <ℤ own_fit tsc = omega (arith, ints, less) in
              inl (omega (
                arith,
                ints,
                a,
                b,
                c,
                d,
                own_less,
                fit-less 4 t own_less,
                fit-less 5 t own_less,
                fit-less 6 t own_less,
                fit-less 7 t own_less,
              ))
          | inr equal ↦
              let own_same : own_fit t ≡ own_fit tsc = omega (arith, ints, equal.0) in
              inr (
                omega (
                  arith,
                  ints,
                  a,
                  b,
                  c,
                  d,
                  own_same,
                  fit-same 4 t own_same,
                  fit-same 5 t own_same,
                  fit-same 6 t own_same,
                  fit-same 7 t own_same,
                ),
                equal.1,
              )
        ];
  }

  pub none_wrong : (count : ℕ) → count_wrong_bits own (midamble tsc) ≡ 0 → wrong_training_of_first heard tsc count ≡ 0
  none_wrong zero right = refl
  none_wrong (suc b) right =
      let here : wrong_training_of heard tsc b ≡ 0 = elim (cases_lt b (length old)) [
        | inl lt ↦ rw (of_burst b lt, right) (grind arith)
        | inr past ↦
            let beyond : length heard ≤ b = omega (arith, length-map (stolen block old) soft_bits, length-stolen block old) in
            grind (arith, beyond)
      ] in
      omega (arith, here, none_wrong b right)

  -- of a block that is received as sent no training bit is wrong; so none is of the bursts that carry it
  pub one_sequence : 4 ≤ length old → (r : Received) → IsReceivedBlock (map soft_bits block) r → IsErrorFreeBlock octets tsc r →
      IsDetectedTsc heard tsc × (wrong_training_of_all heard tsc ≡ 0)
  one_sequence some r is free =
      let a = in_block 0 (lit< tt) in
      let b = in_block 1 (lit< tt) in
      let c = in_block 2 (lit< tt) in
      let d = in_block 3 (lit< tt) in
      let best : IsFirstMaximum (total_correlation own own own own) 7 tsc = rw (a, b, c, d, free.tsc) at is.tsc in
      let wrong : r.wrong_training ≡ wrong_midamble_bits own own own own tsc = rw (a, b, c, d, free.tsc) at is.wrong_training in
      (detected some best, none_wrong 8 (omega (arith, wrong, free.wrong_training)))
