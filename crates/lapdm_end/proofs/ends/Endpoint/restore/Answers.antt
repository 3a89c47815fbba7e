-- `restore` succeeds if and only if it restores the window and the values satisfy `AreConsistent`: `is_consistent` proves one direction,
-- `represents_one` the other.
use Rattle.{
  std.proofs.{Common.{◌≡◌, refl, sym, ◌∙◌, ap, subst}, lemmas.Bool.false≢true},
  lapdm_window.{specs.{segmenting.Segments.Message, Parts.WindowValues}, proofs.Lemmas.Represents-values},
  lapdm_end.{
    specs.{declared.ends.Endpoint.Endpoint, Parts.{EndpointValues, values_of, values_of_parts, SomeEndpointHasValues, AreConsistent}},
    proofs.Lemmas.{Represents-same_values, is_consistent, window_of, represents_one},
    proofs.ends.Endpoint.restore.Goals.then-not-are_consistent-via-then-not-are_consistent,
    proofs.ends.Endpoint.restore.Goals.then-not-are_consistent-via-else-not-are_consistent+then-not-restore,
  },
}
use Rattle.lapdm_window.specs.Parts as W
use Rattle.lapdm_end.proofs.ends.Endpoint.restore.Goals as goal

SomeEndpointHasValues-consistent : (x : EndpointValues) → SomeEndpointHasValues x → AreConsistent x
SomeEndpointHasValues-consistent x h = subst AreConsistent h.1.values_match (is_consistent h.1.endpoint h.0 h.1.represents)

has_values-window : (x : EndpointValues) → SomeEndpointHasValues x → W.SomeWindowHasValues x.window
has_values-window x h =
    let f = window_of h.1.endpoint h.0 h.1.represents in
    (f.0, record { window = h.1.endpoint.window; values_match = ap (λ (y : EndpointValues). y.window) h.1.values_match; represents = f.1 })

pub returns-then-not-are_consistent-clause-valid : goal.returns-then-not-are_consistent-clause-valid
returns-then-not-are_consistent-clause-valid c = (
  λ s. absurd (false≢true s),
  λ h. elim c.then-not-are_consistent.branch [
    | then-not-are_consistent-via-then-not-are_consistent w ↦
        absurd (false≢true (sym w.if-not-are_consistent.true
        ∙ c.are_consistent.ensures.1 (SomeEndpointHasValues-consistent (values_of_parts c.args.parts.now) h)))
    | then-not-are_consistent-via-else-not-are_consistent+then-not-restore w ↦
        absurd (false≢true (sym w.if-not-restore.true
        ∙ w.restore.ensures.valid.1 (has_values-window (values_of_parts c.args.parts.now) h)))
  ],
)

pub returns-clause-valid : goal.returns-clause-valid
returns-clause-valid c =
    let p = c.args.parts.now in
    let x = values_of_parts p in
    let step : AreConsistent x = c.are_consistent.ensures.0 c.if-not-are_consistent.false in
    let window : W.values_of c.restore.new.self ≡ x.window = c.restore.ensures.same c.if-not-restore.false in
    let m : Endpoint = record {
      address = record { role = p.role; sapi = p.sapi; channel = p.window.channel };
      window = c.restore.new.self;
      state = p.state;
      sabm_info = p.sabm_info.now;
      retries = p.retries;
      one_channel = ap (λ (w : WindowValues). w.channel) window;
      sabm_info_fits = step.sabm_info_fits;
    } in
    let same : values_of m ≡ x = ap (λ (w : WindowValues). let y : EndpointValues = record x { window = w } in y) window in
    let known = c.restore.ensures.valid.0 c.if-not-restore.false in
    let found = represents_one m known.0 (subst AreConsistent (sym same) step)
    (Represents-values (known.1.values_match ∙ sym window) known.1.represents) in
    (λ s. (found.0, record { endpoint = m; values_match = same; represents = found.1 }), λ h. refl)

pub returns-clause-represents : goal.returns-clause-represents
returns-clause-represents c = λ _ e h.
    let p = c.args.parts.now in
    let x = values_of_parts p in
    let window : W.values_of c.restore.new.self ≡ x.window = c.restore.ensures.same c.if-not-restore.false in
    let same = ap (λ (k : Message). let y : EndpointValues = record x { sabm_info = k; window = W.values_of c.restore.new.self } in y)
    c.write.ensures
    ∙ ap (λ (w : WindowValues). let y : EndpointValues = record x { window = w } in y) window in
    Represents-same_values h.endpoint _ e (h.values_match ∙ sym same) h.represents
