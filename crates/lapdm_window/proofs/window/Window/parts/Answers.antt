use Rattle.{
  std.proofs.{Common.{refl, arith, ◌≤◌, List, [], ◌∷◌, length, get_or, All}, lemmas.List.Elements.All-head},
  segmenting.{specs.{lapdm_frame.Layout.n201, Segments.{Message, IsValidMessage, max_message_octets}}, proofs.Lemmas.few_segments},
}
use Rattle.lapdm_window.proofs.window.Window.parts.Goals as goal

first_fits : (held : List Message) → All IsValidMessage held → length (get_or held 0 []) ≤ max_message_octets
first_fits [] h = omega arith
first_fits (m ∷ ms) h = let first : IsValidMessage m = All-head IsValidMessage m ms h in first.at_most

pub returns-clause-place : goal.returns-clause-place
returns-clause-place c =
    let w = c.args.self.now in
    omega (
      arith,
      w.in_range,
      few_segments w.channel (n201 w.channel) (length (get_or w.held.items 0 [])) refl (first_fits w.held.items w.messages),
    )
