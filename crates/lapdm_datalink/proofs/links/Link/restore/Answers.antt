use Rattle.std.proofs.Common.{◌≡◌, sym, ◌∙◌, ap, refl, Bool, true, false}
use Rattle.std.specs.Prelude.{IsTrue}
use Rattle.lapdm_end.specs.Addresses.{spec_role_of}
use Rattle.lapdm_datalink.specs.declared.links.Link.{Link}
use Rattle.lapdm_datalink.specs.Parts.{LinkValues, values_of, IsAtSameAddress}
use Rattle.lapdm_datalink.specs.Abstraction.{role_of, sapi_of, channel_of}
use Rattle.lapdm_datalink.proofs.links.Link.restore.Goals as goal

-- a link restored from values at its address, or not restored, keeps its address
record Stays (m n : Link) : Type 0 where
  role : role_of n ≡ role_of m
  sapi : sapi_of n ≡ sapi_of m
  channel : channel_of n ≡ channel_of m

stays : (m n : Link) (x : LinkValues) (b : Bool) → IsAtSameAddress m x → (IsTrue b → values_of n ≡ x) →
    (b ≡ false → n ≡ m) → Stays m n
stays m n x true at same refused =
    let is = same refl in record {
      role = ap (λ (y : LinkValues). spec_role_of y.endpoint.role) is ∙ at.role;
      sapi = ap (λ (y : LinkValues). y.endpoint.sapi) is ∙ at.sapi;
      channel = sym n.endpoint.one_channel ∙ ap (λ (y : LinkValues). y.endpoint.window.channel) is ∙ at.channel;
    }
stays m n x false at same refused = rw (refused refl) (record { role = refl; sapi = refl; channel = refl })

pub returns-clause-role : goal.returns-clause-role
returns-clause-role c =
    (stays c.args.self.now c.restore_any.new.self _ c.restore_any.result (c.has_address_of.ensures.0 c.if-not-has_address_of.false)
    c.restore_any.ensures.same c.restore_any.ensures.refused).role

pub returns-clause-sapi : goal.returns-clause-sapi
returns-clause-sapi c =
    (stays c.args.self.now c.restore_any.new.self _ c.restore_any.result (c.has_address_of.ensures.0 c.if-not-has_address_of.false)
    c.restore_any.ensures.same c.restore_any.ensures.refused).sapi

pub returns-clause-channel : goal.returns-clause-channel
returns-clause-channel c =
    (stays c.args.self.now c.restore_any.new.self _ c.restore_any.result (c.has_address_of.ensures.0 c.if-not-has_address_of.false)
    c.restore_any.ensures.same c.restore_any.ensures.refused).channel
