use Rattle.{
  lapdm_frame.specs.Content.content_of_body,
  std.proofs.Common.{ap, slice_index, ◌-◌, ◌∙◌},
  um_formats.specs.ShowLines.frame_with_address,
}
use Rattle.um_formats.proofs.frame_words.FrameWords.octets.Goals as goal

pub returns : goal.returns
returns c =
    let w = c.args.self.now in
    let said = rw (c.kind_word_and_frame_format.ensures.shape, ← c.body-body.ensures) at c.frame_fields_of_kind.ensures.said in (
      record { sapi = c.value_of_digit-sapi.result; cr = c.is_digit_one-cr.result; content = content_of_body c.body-body.result },
      ap (frame_with_address (slice_index w.sapi.now 0 - 48) (slice_index w.cr.now 0 - 48)) said
          ∙ rw (c.value_of_digit-sapi.ensures.value, c.is_digit_one-cr.ensures),
      c.write.ensures.octets,
    )
