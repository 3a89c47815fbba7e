use Rattle.{
  std.proofs.Common.{sym, ◌∙◌, rules, arith},
  um_lines.specs.Words.words,
  um_script.{specs.Held.AreDecimalWords, proofs.ScriptLines.{places-at_most_592, places-below_592, places_held}},
}
use Rattle.um_script.proofs.room.Room.parse_bit_indices.Goals as goal

pub hold_places-count-requires-clause-space : goal.hold_places-count-requires-clause-space
hold_places-count-requires-clause-space c =
    places-at_most_592 (words c.args.text.now) (sym c.has_index_above_591.ensures ∙ c.if-has_index_above_591.false)
    (sym c.has_repeated_index.ensures ∙ c.if-has_repeated_index.false)

pub returns : goal.returns
returns c =
    let decimal : AreDecimalWords (words c.args.text.now) = first_of (search rules, grind arith) in
    let in_range = sym c.has_index_above_591.ensures ∙ c.if-has_index_above_591.false in
    record {
      read =
          places_held (words c.args.text.now) _ decimal in_range (sym c.has_repeated_index.ensures ∙ c.if-has_repeated_index.false)
          c.hold_places-count.ensures.places;
      possible = rw c.hold_places-count.ensures.places (places-below_592 (words c.args.text.now) in_range);
    }
