use Rattle.std.proofs.Common.{sym, ◌∙◌, ap}
use Rattle.std.proofs.lemmas.{Slice.Eq.{slice_eq-Decides}, Bool.Decides.{Decides-eqb}}
use Rattle.lapdm_frame.specs.{Content.{frame_of_view}, Frames.{octets_of}}
use Rattle.lapdm_datalink.proofs.Lemmas.{read_back}
use Rattle.lapdm_datalink.proofs.parts.is_answer_block.Goals as goal

pub returns-else-not-is_answer : goal.returns-else-not-is_answer
returns-else-not-is_answer c =
    let decides = slice_eq-Decides Decides-eqb c.write_on.result c.args.block.now c.eq.result c.eq.ensures in
    let g = frame_of_view c.in-Ok.frame in (
      λ t. (
        g,
        (c.in-Ok.ensures.frame.frame.fits, c.is_answer.ensures.0 c.if-not-is_answer.false),
        sym (decides.0 t) ∙ c.write_on.ensures.octets,
      ),
      λ h. decides.1 (c.write_on.ensures.octets ∙ ap (octets_of c.args.channel) (read_back h.1.0 h.2 c.in-Ok.ensures.frame)
          ∙ sym h.2),
    )
