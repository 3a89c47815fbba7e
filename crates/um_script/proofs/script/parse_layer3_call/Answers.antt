use Rattle.{
  std.proofs.Common.{ap, sym, ◌∙◌},
  um_lines.specs.Words.words,
  um_script.{specs.{Names.link_endpoint_of, ScriptReading.{parsed_layer3_call, parsed_octets_call}}, proofs.ScriptLines.layer3_call-verb},
}
use Rattle.um_script.proofs.script.parse_layer3_call.Goals as goal

pub returns-in-Some-clause-read : goal.returns-in-Some-clause-read
returns-in-Some-clause-read c =
    let end = link_endpoint_of c.args.end c.args.sapi in
    let octets = c.in-Some.octets.now in
    c.parse_octets_call.ensures.read
    ∙ ap (λ request. parsed_octets_call end request (words octets)) c.request_of_word-in-Some.ensures
    ∙ layer3_call-verb end c.in-Some.verb.now octets
    ∙ ap (parsed_layer3_call end) (sym c.in-Some.ensures.parts)
