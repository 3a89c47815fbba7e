use Rattle.{
  std.proofs.{Common.{refl, subst, sym, ◌≡◌, ◌∙◌, ap}, lemmas.Bool.false≢true},
  um_air.specs.lapdm_window.declared.Sapi.TheVariants.Zero,
  um_c.specs.{SideCalls.endpoint_of, States.{IsCanonicalStruct, sapi_of}, declared.{states.CEndpoint.CEndpoint, sides.CSide.CSide}},
}
use Rattle.um_c.proofs.sides.um_side_take.Goals as goal

pub returns-then-is_frame_on_sapi_3-clause-answers_block : goal.returns-then-is_frame_on_sapi_3-clause-answers_block
returns-then-is_frame_on_sapi_3-clause-answers_block c =
    let is = c.is_frame_on_sapi_3.ensures.0 c.if-is_frame_on_sapi_3.true in
    record {
      sapi3_frame_to_sapi3_endpoint = λ _ _. record {
        answers_block = c.um_end_take-answer.ensures.answers_block;
        other_unchanged = refl;
        reports_sapi =
            c.write_sapi_if_successful.ensures.written;
      };
      other_block_to_sapi0_endpoint = λ _ never. absurd (never is);
      not_a_side = λ never. absurd (never (c.is_valid_side.ensures.0 c.if-not-is_valid_side.false));
      unchanged = λ other.
          let u = c.um_end_take-answer.ensures.answers_block.unchanged other in (
            ap (λ (e : CEndpoint). let s : CSide = record c.args.side.now { link3 = e } in s) u.0,
            c.write_sapi_if_successful.ensures.unchanged other,
            u.1,
          );
    }

pub returns-clause-answers_block : goal.returns-clause-answers_block
returns-clause-answers_block c = record {
  sapi3_frame_to_sapi3_endpoint = λ _ is. absurd (false≢true (sym c.if-is_frame_on_sapi_3.false ∙ c.is_frame_on_sapi_3.ensures.1 is));
  other_block_to_sapi0_endpoint = λ _ _. record {
    answers_block = c.um_end_take-answer-2.ensures.answers_block;
    other_unchanged = refl;
    reports_sapi =
        c.write_sapi_if_successful-2.ensures.written;
  };
  not_a_side = λ never. absurd (never (c.is_valid_side.ensures.0 c.if-not-is_valid_side.false));
  unchanged = λ other.
      let u = c.um_end_take-answer-2.ensures.answers_block.unchanged other in (
        ap (λ (e : CEndpoint). let s : CSide = record c.args.side.now { link0 = e } in s) u.0,
        c.write_sapi_if_successful-2.ensures.unchanged other,
        u.1,
      );
}

pub returns-clause-c_struct : goal.returns-clause-c_struct
returns-clause-c_struct c zero s is =
    let after : CSide = record c.args.side.now { link0 = c.um_end_take-answer-2.new.end } in
    let same : Zero ≡ s = cc (sym (is ∙ ap sapi_of (c.write_sapi_if_successful-2.ensures.written zero))) in
    subst (λ s. IsCanonicalStruct (endpoint_of s after)) same (c.um_end_take-answer-2.ensures.c_struct zero)
