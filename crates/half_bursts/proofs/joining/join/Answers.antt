use Rattle.{
  half_bursts.proofs.{Loops.IsBurst-read, joining.join.Goals.After-joined_burst-4},
  half_bursts.proofs.Halves.{AreCarried-joined, IsBurst, IsInterleaved-joined},
  half_bursts.specs.Halves.{coded_values, partner},
  interleave.specs.Bursts.IsInterleaved,
  lanes.proofs.Lanes.each,
  std.{proofs.Common.{◌≡◌, [], get_or, length, map, pos, rules, subst, sym, ℕ}, specs.List.All},
}
use Rattle.half_bursts.proofs.joining.join.Goals as goal

each_burst : (c : After-joined_burst-4) → All IsBurst c.args.bursts.now
each_burst c =
    let bursts = c.args.bursts.now in
    let Read : ℕ → Type 0 =
    λ b. (length (get_or bursts b []) ≡ 148) × (length (get_or bursts (partner (length bursts) b) []) ≡ 148) in
    let at : (n m : ℕ) → n ≡ m → length (get_or bursts n []) ≡ 148 → length (get_or bursts m []) ≡ 148 =
    λ n m is long. subst (λ k. length (get_or bursts k []) ≡ 148) is long in
    IsBurst-read bursts c.requires.at_least c.requires.at_most (each Read 4 (
      (
        (
          (record {}, (c.joined_burst.ensures.counts.0, at _ _ c.partner.ensures.value c.joined_burst.ensures.counts.1)),
          (c.joined_burst-2.ensures.counts.0, at _ _ c.partner-2.ensures.value c.joined_burst-2.ensures.counts.1),
        ),
        (c.joined_burst-3.ensures.counts.0, at _ _ c.partner-3.ensures.value c.joined_burst-3.ensures.counts.1),
      ),
      (c.joined_burst-4.ensures.counts.0, at _ _ c.partner-4.ensures.value c.joined_burst-4.ensures.counts.1),
    ))

pub returns-clause-value : goal.returns-clause-value
returns-clause-value c = search rules

pub returns-clause-carried : goal.returns-clause-carried
returns-clause-carried c coded spread =
    AreCarried-joined (pos 0) c.args.bursts.now (each_burst c) c.requires.at_least coded
    (subst (λ block. IsInterleaved coded (map coded_values block)) (returns-clause-value c) spread)

pub returns-clause-only : goal.returns-clause-only
returns-clause-only c coded carried =
    subst (λ block. IsInterleaved coded (map coded_values block)) (sym (returns-clause-value c))
    (IsInterleaved-joined (pos 0) c.args.bursts.now (each_burst c) c.requires.at_least coded carried)
