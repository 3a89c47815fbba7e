use Rattle.std.proofs.Common.{sym, ◌∙◌, ap}
use Rattle.std.proofs.lemmas.Bool.{false≢true}
use Rattle.lapdm_datalink.specs.Parts.{LinkValues, values_of_parts}
use Rattle.lapdm_datalink.proofs.Lemmas.{endpoint_values, address_of_values}
use Rattle.lapdm_datalink.proofs.parts.LinkView.outlook.Goals as goal

pub returns-then-not-is_link : goal.returns-then-not-is_link
returns-then-not-is_link c h = false≢true (sym c.if-not-is_link.true ∙ c.is_link.ensures.1 h)

pub returns : goal.returns
returns c = (
  c.is_link.ensures.0 c.if-not-is_link.false,
  λ l h. (
      let x = values_of_parts c.args.self.now in
      let at = address_of_values x.endpoint l.endpoint (endpoint_values x l h) in
      let t200 = sym (ap (λ (y : LinkValues). y.t200) h.values_match) ∙ h.represents.t200 in
      let clock = sym (ap (λ (y : LinkValues). y.clock) h.values_match) ∙ h.represents.clock in
      record {
        role = at.role;
        sapi = at.sapi;
        channel = at.channel;
        state = sym (ap (λ (y : LinkValues). y.endpoint.state) h.values_match) ∙ h.represents.endpoint.state;
        timed = rw (t200, clock) at c.is_timed.ensures;
        acts = c.acts_in_next_slot.ensures l h;
      }
      ),
)
