use Rattle.{
  std.proofs.Common.{◌≡◌, arith},
  lapdm_frame.{
    specs.{declared.Refusal.TheVariants.{Ea, Control}, Content.content_of_body},
    proofs.Lemmas.{only_frame, Passes, refused, past_lpd, past_address, fault_refuses, frame_found},
  },
}
use Rattle.lapdm_frame.proofs.reader.read_on.Goals as goal

pub returns-then-address-eq0-clause-refusal : goal.returns-then-address-eq0-clause-refusal
returns-then-address-eq0-clause-refusal c =
    let at = c.layer1_octet_count-start.ensures.value in
    let passed = past_lpd c.args.channel c.args.octets.now (rw at at c.if-address-ge32.false) in
    refused c.args.channel c.args.octets.now Ea passed (rw at at c.if-address-eq0.true)

pub returns-in_default-clause-refusal : goal.returns-in_default-clause-refusal
returns-in_default-clause-refusal c =
    let at = c.layer1_octet_count-start.ensures.value in
    let passed = past_address c.args.channel c.args.octets.now (rw at at c.if-address-ge32.false) (rw at at c.if-address-eq0.false) in
    refused c.args.channel c.args.octets.now Control passed (rw at at c.in_default.ensures.unknown)

pub returns-in-Some-length_fault-clause-refusal : goal.returns-in-Some-length_fault-clause-refusal
returns-in-Some-length_fault-clause-refusal c =
    let at = c.layer1_octet_count-start.ensures.value in
    let passed = past_address c.args.channel c.args.octets.now (rw at at c.if-address-ge32.false) (rw at at c.if-address-eq0.false) in
    let known = rw at at c.in-Some.ensures.known in
    let fault = rw (at, c.n201-most.ensures) at c.in-Some-length_fault.ensures.fault in
    fault_refuses c.args.channel c.args.octets.now (content_of_body c.in-Some.body) known passed c.in-Some-length_fault.reason fault

pub returns-clause-frame : goal.returns-clause-frame
returns-clause-frame c =
    let at = c.layer1_octet_count-start.ensures.value in
    let no_fault = c.in_default-length_fault.ensures.none in
    let within : c.min.result ≡ c.from-size.result = omega (arith, no_fault.allowed_length.length_bound) in
    let passes : Passes c.args.channel c.args.octets.now (content_of_body c.in-Some.body) = record {
      count = omega arith;
      address_in_range = rw at at c.if-address-ge32.false;
      address_is_odd = rw at at c.if-address-eq0.false;
      known_control = rw at at c.in-Some.ensures.known;
      no_length_fault = rw (at, c.n201-most.ensures) at no_fault;
      carried = rw at at (rw (within, c.from-size.ensures) at c.in-Some.ensures.carried);
      goes_on = rw at at c.in-Some.ensures.goes_on;
    } in
    rw at (only_frame c.args.channel _ c.args.octets.now
    (frame_found c.args.channel c.args.octets.now (content_of_body c.in-Some.body) passes))
