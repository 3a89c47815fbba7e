use Rattle.{
  std.proofs.Common.{ap, sym, ◌∙◌},
  um_lines.specs.Words.words,
  um_script.specs.{Names.link_direction_of, ScriptReading.{parsed_radio_event, parsed_bit_inversion}},
  um_script.proofs.ScriptLines.radio_event-verb,
}
use Rattle.um_script.proofs.script.parse_radio_path_line.Goals as goal

pub returns-in-Some-clause-read : goal.returns-in-Some-clause-read
returns-in-Some-clause-read c =
    let way = link_direction_of c.args.way in
    let places = c.in-Some.places.now in
    c.parse_bit_inversion.ensures.read
    ∙ ap (λ done. parsed_bit_inversion way done (words places)) c.action_of_word-in-Some.ensures
    ∙ radio_event-verb way c.in-Some.verb.now places
    ∙ ap (parsed_radio_event way) (sym c.in-Some.ensures.parts)
