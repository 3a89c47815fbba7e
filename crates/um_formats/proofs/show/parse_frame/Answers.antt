use Rattle.{
  std.proofs.{Common.{sym, ap, Ok, ◌∙◌}, lemmas.Bool.{not-false, not-true}},
  um_formats.proofs.FrameLines.{refused_for_digits, refused_for_length, read_frame},
}
use Rattle.um_formats.specs.declared.show.ShowLine.TheVariants as S
use Rattle.um_formats.proofs.show.parse_frame.Goals as goal

pub returns-then-not-have_valid_digits : goal.returns-then-not-have_valid_digits
returns-then-not-have_valid_digits c =
    refused_for_digits _ c.in_ok-found.found c.in_ok-found.ensures (not-false _ (sym c.have_valid_digits.ensures
    ∙ c.if-not-have_valid_digits.true))

pub returns-then-not-has_valid_info_length : goal.returns-then-not-has_valid_info_length
returns-then-not-has_valid_info_length c =
    refused_for_length _ c.in_ok-found.found c.in_ok-found.ensures
    (not-true _ (sym c.have_valid_digits.ensures ∙ c.if-not-have_valid_digits.false))
    (not-false _ (sym c.has_valid_info_length.ensures ∙ c.if-not-has_valid_info_length.true))

pub octets-requires-clause-digits : goal.octets-requires-clause-digits
octets-requires-clause-digits c = not-true _ (sym c.have_valid_digits.ensures ∙ c.if-not-have_valid_digits.false)

pub returns : goal.returns
returns c =
    let f = c.octets.ensures.0 in
    ap (λ octets. Ok (S.Frame octets)) c.octets.ensures.2 ∙ read_frame _ c.in_ok-found.found c.in_ok-found.ensures f
    (not-true _ (sym c.have_valid_digits.ensures ∙ c.if-not-have_valid_digits.false))
    (not-true _ (sym c.has_valid_info_length.ensures ∙ c.if-not-has_valid_info_length.false))
    c.octets.ensures.1
