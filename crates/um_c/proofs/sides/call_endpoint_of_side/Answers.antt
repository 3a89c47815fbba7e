use Rattle.{
  std.proofs.Common.{◌≡◌, ◌≢◌, ◌∙◌, Some, ap, refl, subst, sym, ℕ},
  um_air.specs.lapdm_window.{Calls.Call, declared.Sapi.{Sapi, TheVariants.{Three, Zero}}},
  lapdm_end.specs.Sides.other,
  um_c.specs.{EndCalls.EndpointAnswersCall, SideCalls.{IsValidSide, SideAnswersCall, endpoint_of}, States.{IsCanonicalStruct, sapi_of}},
  um_c.specs.declared.{states.CEndpoint.CEndpoint, sides.CSide.CSide, effects.CEffects.CEffects},
}
use Rattle.um_c.proofs.sides.call_endpoint_of_side.Goals as goal

one_sapi : (s k : Sapi) (number : ℕ) → Some s ≡ sapi_of number → Some k ≡ sapi_of number → k ≡ s
one_sapi s k number is at = cc (at ∙ sym is)

-- a call that goes to the endpoint of one SAPI is a call of the side
side_answers : (k : Sapi) (sapi : ℕ) {call : Call} {answer : ℕ} (before after : CSide) {old new : CEffects} →
    Some k ≡ sapi_of sapi →
    IsValidSide before → EndpointAnswersCall call answer (endpoint_of k before) (endpoint_of k after) old new →
    endpoint_of (other k) after ≡ endpoint_of (other k) before → (answer ≢ 0 → after ≡ before) →
    SideAnswersCall sapi call answer before after old new
side_answers k sapi {call} {answer} before after {old} {new} at valid answers others unchanged = record {
  answers_call = λ _ s is. subst (λ s. EndpointAnswersCall call answer (endpoint_of s before) (endpoint_of s after) old new)
      (one_sapi s k sapi is at) answers;
  other_unchanged = λ s is. subst (λ s. endpoint_of (other s) after ≡ endpoint_of (other s) before) (one_sapi s k sapi is at) others;
  no_such_sapi = λ _ none. absurd (cc (at ∙ sym none));
  not_a_side = λ never. absurd (never valid);
  unchanged = λ n. (unchanged n, (answers.unchanged n).1);
}

pub returns-in-Some-Zero-clause-answers_call : goal.returns-in-Some-Zero-clause-answers_call
returns-in-Some-Zero-clause-answers_call c =
    side_answers Zero c.args.sapi c.args.side.now (record c.args.side.now { link0 = c.call_endpoint.new.end })
    (ap Some (sym c.in-Some-Zero.field-0-is) ∙ c.in-Some-Zero.ensures) (c.is_valid_side.ensures.0 c.if-not-is_valid_side.false)
    c.call_endpoint.ensures.answers_call refl
    (λ n. ap (λ (e : CEndpoint). let s : CSide = record c.args.side.now { link0 = e } in s)
    (c.call_endpoint.ensures.answers_call.unchanged n).0)

pub returns-in-Some-Three-clause-answers_call : goal.returns-in-Some-Three-clause-answers_call
returns-in-Some-Three-clause-answers_call c =
    side_answers Three c.args.sapi c.args.side.now (record c.args.side.now { link3 = c.call_endpoint-in-Some-Three.new.end })
    (ap Some (sym c.in-Some-Three.field-0-is) ∙ c.in-Some-Three.ensures) (c.is_valid_side.ensures.0 c.if-not-is_valid_side.false)
    c.call_endpoint-in-Some-Three.ensures.answers_call refl
    (λ n. ap (λ (e : CEndpoint). let s : CSide = record c.args.side.now { link3 = e } in s)
    (c.call_endpoint-in-Some-Three.ensures.answers_call.unchanged n).0)

pub returns-in-Some-Three-clause-c_struct : goal.returns-in-Some-Three-clause-c_struct
returns-in-Some-Three-clause-c_struct c zero s is =
    let after : CSide = record c.args.side.now { link3 = c.call_endpoint-in-Some-Three.new.end } in
    subst (λ s. IsCanonicalStruct (endpoint_of s after))
    (one_sapi s Three c.args.sapi is (ap Some (sym c.in-Some-Three.field-0-is) ∙ c.in-Some-Three.ensures))
    (c.call_endpoint-in-Some-Three.ensures.c_struct zero)
