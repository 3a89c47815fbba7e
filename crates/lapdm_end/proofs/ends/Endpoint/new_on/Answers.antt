use Rattle.{std.proofs.Common.refl, lapdm_window.proofs.Lemmas.IsValidEndpoint-initial, lapdm_end.specs.Addresses.spec_role_of}
use Rattle.lapdm_end.proofs.ends.Endpoint.new_on.Goals as goal

pub returns-clause-represents : goal.returns-clause-represents
returns-clause-represents c =
    let window = c.new_on.ensures.represents (spec_role_of c.args.role) c.args.sapi in
    record {
      valid = IsValidEndpoint-initial (spec_role_of c.args.role) c.args.sapi c.args.channel;
      address = record { role = refl; sapi = refl; channel = refl };
      state = refl;
      sabm_info = c.new.ensures;
      variables = window.variables;
      unacked_messages = window.unacked_messages;
      retries = refl;
      segment_repeats = window.retries;
    }
