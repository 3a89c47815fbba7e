use Rattle.{
  std.proofs.Common.{arith, rules, ◌≡◌, ◌/◌, ◌%◌, ◌^◌, ◌+◌, ◌*◌, ◌<◌, ℤ, [], pos, length, get_or, ap},
  std.proofs.{Common.{◌∙◌, to_z, of_z, w16, w32}, lemmas.{Int.{ints, to_z-of_z}, Nat.and_mask}},
  list_decode.proofs.{
    DeviatingWords.{least_loss-old, least_loss-new, partial_traceback-more},
    deviation.PartialTraceback.trace_back_bit.Goals.After-is_improved_by,
  },
}
use Rattle.list_decode.proofs.deviation.PartialTraceback.trace_back_bit.Goals as goal

abbrev lost : After-is_improved_by → ℤ
lost c = get_or (get_or c.args.losses.now c.args.k []) c.args.self.state (pos 0)

inside : (c : After-is_improved_by) → c.args.k + 4 < length c.args.rows.now
inside c = let same = c.requires.rows in let within = c.requires.within in omega arith

is_lost : (c : After-is_improved_by) → to_z w16 (of_z w16 (lost c)) ≡ lost c
is_lost c = to_z-of_z w16 _ (search rules)

compared : (c : After-is_improved_by) → to_z w32 (of_z w32 c.from-2.result) ≡ lost c
compared c = to_z-of_z w32 _ (search rules) ∙ c.from-2.ensures ∙ is_lost c

pub returns-then-is_improved_by : goal.returns-then-is_improved_by
returns-then-is_improved_by c =
    let at = (goal.at.returns-then-is_improved_by c).After-is_improved_by in
    let rows = c.args.rows.now in
    let k = c.args.k in
    let bit = and_mask (get_or rows k 0 / 2 ^ c.args.self.state) 1 in
    let is = compared at in
    let new = c.new.ensures in
    record {
      reading = partial_traceback-more rows c.args.losses.now c.args.u.now k c.args.self c.requires.reading (inside at) _ _
          (let within = c.requires.within in omega arith) bit (ap (λ bit. (2 * c.args.self.state + bit) % 16) c.from.ensures)
          (least_loss-new rows c.args.losses.now c.args.u.now k c.args.self c.requires.reading (inside at) c.new.result
          (let h = c.is_improved_by.ensures.after c.if-is_improved_by.true in omega (arith, ints))
          new.index new.state (new.loss ∙ is_lost at) (let l = new.loss_limit in omega (arith, ints)));
    }

pub returns-else-is_improved_by : goal.returns-else-is_improved_by
returns-else-is_improved_by c =
    let at = (goal.at.returns-else-is_improved_by c).After-is_improved_by in
    let rows = c.args.rows.now in
    let k = c.args.k in
    let bit = and_mask (get_or rows k 0 / 2 ^ c.args.self.state) 1 in
    let is = compared at in
    record {
      reading = partial_traceback-more rows c.args.losses.now c.args.u.now k c.args.self c.requires.reading (inside at) _ _
          (let within = c.requires.within in omega arith) bit (ap (λ bit. (2 * c.args.self.state + bit) % 16) c.from.ensures)
          (least_loss-old rows c.args.losses.now c.args.u.now k c.args.self c.requires.reading (inside at)
          (let h = c.is_improved_by.ensures.not_after c.if-is_improved_by.false in omega (arith, ints)));
    }
