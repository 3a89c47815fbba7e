-- Some endpoint has the state if and only if its values satisfy `AreConsistent`, and some window has that of its window.
use Rattle.{
  std.proofs.{Common.{◌≡◌, sym, ◌∙◌, ap, subst}, lemmas.Bool.false≢true},
  lapdm_window.specs.Parts.WindowValues,
  lapdm_end.{
    specs.{declared.ends.Endpoint.Endpoint, Parts.{EndpointValues, values_of, values_of_parts, SomeEndpointHasValues, AreConsistent}},
    proofs.Lemmas.{is_consistent, window_of, represents_one},
  },
}
use Rattle.lapdm_window.specs.Parts as W
use Rattle.lapdm_end.proofs.parts.EndpointView.is_endpoint.Goals as goal

consistent : (x : EndpointValues) → SomeEndpointHasValues x → AreConsistent x
consistent x h = subst AreConsistent h.1.values_match (is_consistent h.1.endpoint h.0 h.1.represents)

has_values-window : (x : EndpointValues) → SomeEndpointHasValues x → W.SomeWindowHasValues x.window
has_values-window x h =
    let f = window_of h.1.endpoint h.0 h.1.represents in
    (f.0, record { window = h.1.endpoint.window; values_match = ap (λ (y : EndpointValues). y.window) h.1.values_match; represents = f.1 })

pub returns-then-are_consistent : goal.returns-then-are_consistent
returns-then-are_consistent c =
    let p = c.args.self.now in
    let x = values_of_parts p in
    let step : AreConsistent x = c.are_consistent.ensures.0 c.if-are_consistent.true in (
      λ s. let known = c.is_window.ensures.0 s in
          let window : W.values_of known.1.window ≡ x.window = known.1.values_match in
          let m : Endpoint = record {
            address = record { role = p.role; sapi = p.sapi; channel = p.window.channel };
            window = known.1.window;
            state = p.state;
            sabm_info = p.sabm_info.now;
            retries = p.retries;
            one_channel = ap (λ (w : WindowValues). w.channel) window;
            sabm_info_fits = step.sabm_info_fits;
          } in
          let same : values_of m ≡ x = ap (λ (w : WindowValues). let y : EndpointValues = record x { window = w } in y) window in
          let found = represents_one m known.0 (subst AreConsistent (sym same) step) known.1.represents in
          (found.0, record { endpoint = m; values_match = same; represents = found.1 }),
      λ h. c.is_window.ensures.1 (has_values-window x h),
    )

pub returns-else-are_consistent : goal.returns-else-are_consistent
returns-else-are_consistent c = (
  λ s. absurd (false≢true (sym c.if-are_consistent.false ∙ s)),
  λ h. c.are_consistent.ensures.1 (consistent (values_of_parts c.args.self.now) h),
)
