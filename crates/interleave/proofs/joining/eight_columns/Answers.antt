-- Three rounds of joining turn eight rows into eight columns: octet r of column s is the octet that row r has for that column.
use Rattle.{
  std.proofs.Common.{◌≡◌, ℕ, ◌+◌, ◌*◌, ◌/◌, ◌%◌, ◌^◌, ◌<◌, List, [], ◌∷◌, get_or, ap, ap₂, refl},
  std.proofs.Common.{◌∙◌, arith},
  interleave.{
    specs.ColumnPositions.burst_position_of_column_bit,
    proofs.{JoinedLanes.{each_below_8, below_at, octet_of_joined}, joining.eight_columns.Goals.After-join_octet_fours-2},
  },
}
use Rattle.interleave.proofs.joining.eight_columns.Goals as goal

-- the eight octets of column s, that of row 0 first
octets : After-join_octet_fours-2 → ℕ → List ℕ
octets c s =
    get_or c.octet_pairs.result s 0 % 256 ∷ get_or c.octet_pairs-2.result s 0 % 256 ∷ get_or c.octet_pairs-3.result s 0 % 256
    ∷ get_or c.octet_pairs-4.result s 0 % 256 ∷
    get_or c.octet_pairs-5.result s 0 / 256 % 256 ∷ get_or c.octet_pairs-6.result s 0 / 256 % 256
    ∷ get_or c.octet_pairs-7.result s 0 / 256 % 256 ∷
    get_or c.octet_pairs-8.result s 0 / 256 % 256 ∷ []

octets-below : (c : After-join_octet_fours-2) (s r : ℕ) → get_or (octets c s) r 0 < 256
unfolding octets
octets-below c s r = below_at 256 (omega arith) (octets c s)
    (omega arith) r

-- the eight octets of column s, joined into one number
joined : After-join_octet_fours-2 → ℕ → ℕ
joined c s =
    let e : ℕ → ℕ = λ r. get_or (octets c s) r 0 in
    e 0 + 256 * e 1 + 65536 * (e 2 + 256 * e 3) + 2 ^ 32 * (e 4 + 256 * e 5 + 65536 * (e 6 + 256 * e 7))

-- column s, from the lanes in which the octets of rows 0 and 1, 2 and 3, 4 and 5, and 6 and 7 are joined
pairs : (c : After-join_octet_fours-2) (s : ℕ) → s < 8 →
    get_or c.join_lower_octets.result s 0 + 65536 * get_or c.join_lower_octets-2.result s 0
    + 2 ^ 32 * (get_or c.join_upper_octets.result s 0 + 65536 * get_or c.join_upper_octets-2.result s 0) ≡ joined c s
unfolding octets joined
pairs c s h = rw (
  c.join_lower_octets.ensures.each s h,
  c.join_lower_octets-2.ensures.each s h,
  c.join_upper_octets.ensures.each s h,
  c.join_upper_octets-2.ensures.each s h,
) refl

first : (c : After-join_octet_fours-2) (s : ℕ) → s < 4 → get_or c.join_octet_fours.result s 0 ≡ joined c s
first c s h =
    c.join_octet_fours.ensures s h
    ∙ ap₂ (λ a b. a + 2 ^ 32 * b) (c.join_octet_pairs.ensures.first s h) (c.join_octet_pairs-2.ensures.first s h)
    ∙ pairs c s (omega arith)

last : (c : After-join_octet_fours-2) (s : ℕ) → s < 4 → get_or c.join_octet_fours-2.result s 0 ≡ joined c (4 + s)
last c s h =
    c.join_octet_fours-2.ensures s h
    ∙ ap₂ (λ a b. a + 2 ^ 32 * b) (c.join_octet_pairs.ensures.last s h) (c.join_octet_pairs-2.ensures.last s h)
    ∙ pairs c (4 + s) (omega arith)

columns : After-join_octet_fours-2 → List ℕ
columns c =
    get_or c.join_octet_fours.result 0 0 ∷ get_or c.join_octet_fours.result 1 0 ∷ get_or c.join_octet_fours.result 2 0
    ∷ get_or c.join_octet_fours.result 3 0 ∷
    get_or c.join_octet_fours-2.result 0 0 ∷ get_or c.join_octet_fours-2.result 1 0 ∷ get_or c.join_octet_fours-2.result 2 0
    ∷ get_or c.join_octet_fours-2.result 3 0 ∷ []

column : (c : After-join_octet_fours-2) (s : ℕ) → s < 8 → get_or (columns c) s 0 ≡ joined c s
unfolding columns
column c = each_below_8 _ (first c 0 (omega arith)) (first c 1 (omega arith)) (first c 2 (omega arith)) (first c 3 (omega arith))
    (last c 0 (omega arith)) (last c 1 (omega arith)) (last c 2 (omega arith)) (last c 3 (omega arith))

moved : (part : List ℕ) {x i j : ℕ} → x ≡ get_or part i 0 → i ≡ j → x ≡ get_or part j 0
moved _ is e = cc

-- octet r of column s comes from burst r mod 4, from the position that this column has in row r
stands : (c : After-join_octet_fours-2) (s : ℕ) → s < 8 → (r : ℕ) → r < 8 →
    get_or (octets c s) r 0 ≡ get_or (get_or c.args.bursts.now (r % 4) [])
    (burst_position_of_column_bit (8 * c.args.column_group + s) r) 0
unfolding octets burst_position_of_column_bit
stands c s hs =
    let part : ℕ → List ℕ = λ b. get_or c.args.bursts.now b [] in each_below_8 _
    (moved (part 0) (c.octet_pairs.ensures.even s hs) (omega (arith, c.column_index_in_row.ensures)))
    (moved (part 1) (c.octet_pairs-2.ensures.even s hs) (omega (arith, c.column_index_in_row-2.ensures)))
    (moved (part 2) (c.octet_pairs-3.ensures.even s hs) (omega (arith, c.column_index_in_row-3.ensures)))
    (moved (part 3) (c.octet_pairs-4.ensures.even s hs) (omega (arith, c.column_index_in_row-4.ensures)))
    (moved (part 0) (c.octet_pairs-5.ensures.odd s hs) (omega (arith, c.column_index_in_row-5.ensures)))
    (moved (part 1) (c.octet_pairs-6.ensures.odd s hs) (omega (arith, c.column_index_in_row-6.ensures)))
    (moved (part 2) (c.octet_pairs-7.ensures.odd s hs) (omega (arith, c.column_index_in_row-7.ensures)))
    (moved (part 3) (c.octet_pairs-8.ensures.odd s hs) (omega (arith, c.column_index_in_row-8.ensures)))

pub returns : goal.returns
unfolding columns joined
returns c s r hs hr =
    ap (λ x. x / 256 ^ r % 256) (column c s hs)
    ∙ octet_of_joined _ (octets-below c s) r hr
    ∙ stands c s hs r hr
