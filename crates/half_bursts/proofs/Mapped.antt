-- A block is joined from bursts of other values, as soft bits of bits, alike.
use Rattle.{
  half_bursts.{proofs.Halves.{IsBurst, partner-below}, specs.Halves.{burst_of_block, joined_block, joined_value, partner}},
  std.proofs.Common.{List, [], ap, arith, get_or, length, map, sym, ℕ, ◌%◌, ◌<◌, ◌==◌, ◌∙◌, ◌≡◌, ◌≤◌},
  std.proofs.Common.{if◌then◌else◌},
  std.proofs.lemmas.List.{FromFn.{get_or-map-range_with_len, length-map-range_with_len}, ext_get_or, get_or-map, length-map},
  std.specs.List.All,
}

-- the burst that is chosen by a parity, among bursts and among their images
chosen-map : {X Y : Type 0} (f : X → Y) (none : X) (none' : Y) (bursts : List (List X)) (a b p : ℕ) → All IsBurst bursts →
    a < length bursts → b < length bursts → p < 148 →
    get_or (if p % 2 == 1 then get_or (map (map f) bursts) a [] else get_or (map (map f) bursts) b []) p none' ≡
    f (get_or (if p % 2 == 1 then get_or bursts a [] else get_or bursts b []) p none)
chosen-map f none none' bursts a b p each ha hb hp =
    let one : (n : ℕ) → n < length bursts →
    get_or (get_or (map (map f) bursts) n []) p none' ≡ f (get_or (get_or bursts n []) p none) =
    λ n hn. ap (λ xs. get_or xs p none') (get_or-map (map f) bursts n [] [] hn)
    ∙ get_or-map f (get_or bursts n []) p none none' (omega (arith, each n [] hn)) in
    grind (arith, one a ha, one b hb)

pub joined_block-map : {X Y : Type 0} (f : X → Y) (none : X) (none' : Y) (bursts : List (List X)) →
    All IsBurst bursts → 4 ≤ length bursts →
    joined_block none' (map (map f) bursts) ≡ map (map f) (joined_block none bursts)
joined_block-map f none none' bursts each four =
    let n = length bursts in
    let images : List (List _) = map (map f) bursts in
    let same : length images ≡ n = length-map bursts (map f) in
    let many = length-map-range_with_len (burst_of_block none' images) 0 4 in
    let many' = length-map-range_with_len (burst_of_block none bursts) 0 4 in
    ext_get_or [] _ _ (omega (arith, length-map (joined_block none bursts) (map f))) (λ b hb.
    let below : b < 4 = omega arith in
    let odd = get_or images b [] in
    let even = get_or images (partner (length images) b) [] in
    let odd' = get_or bursts b [] in
    let even' = get_or bursts (partner n b) [] in
    let long = length-map-range_with_len (joined_value none' odd even) 0 148 in
    let long' = length-map-range_with_len (joined_value none odd' even') 0 148 in
    get_or-map-range_with_len (burst_of_block none' images) 0 4 b b [] below (omega arith)
    ∙ ext_get_or none' _ (map f (burst_of_block none bursts b))
    (omega (arith, length-map (burst_of_block none bursts b) f)) (λ p hp.
    let small : p < 148 = omega arith in
    get_or-map-range_with_len (joined_value none' odd even) 0 148 p p none' small (omega arith)
    ∙ ap (λ m. get_or (if p % 2 == 1 then odd else get_or images (partner m b) []) p none') same
    ∙ chosen-map f none none' bursts b (partner n b) p each (omega arith) (partner-below n b four below) small
    ∙ ap f (sym (get_or-map-range_with_len (joined_value none odd' even') 0 148 p p none small (omega arith)))
    ∙ sym (get_or-map f (burst_of_block none bursts b) p none none' (omega arith)))
    ∙ ap (map f) (sym (get_or-map-range_with_len (burst_of_block none bursts) 0 4 b b [] below (omega arith)))
    ∙ sym (get_or-map (map f) (joined_block none bursts) b [] [] (omega arith)))
