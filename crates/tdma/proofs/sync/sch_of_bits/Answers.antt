use Rattle.{
  std.proofs.Common.{ap, arith, inl, refl, rules, Some, ℕ, ◌≡◌, ◌%◌, ◌/◌, ◌*◌, ◌+◌},
  tdma.{
    specs.{Frames.IsFrameAt, declared.{frames.FrameTime.FrameTime, sync.SchInfo.SchInfo}, Sync.HasSch},
    proofs.Lemmas.{AreSyncBits, HasFields, bits_of_fields, fields_of_bits, numbers_of_bits, reading_none, reading_some, t2_beyond},
  },
}
use Rattle.tdma.proofs.sync.sch_of_bits.Goals as goal

pub returns-then-t3-gt4-clause-found : goal.returns-then-t3-gt4-clause-found
returns-then-t3-gt4-clause-found c = λ info has same.
    let r = c.octets_of_bits-first in
    let are : AreSyncBits c.args.bits.now r.result.0 r.result.1 r.result.2 r.result.3 = record {
      same = r.ensures.same;
      first_octet = search rules;
      second_octet = search rules;
      third_octet = search rules;
      last_bit = r.ensures.bit;
    } in
    let fields = fields_of_bits info c.args.bits.now r.result.0 r.result.1 r.result.2 r.result.3 are has same in
    omega (arith, fields.reduced, c.if-t3-gt4.true)

pub returns-then-t3-gt4-clause-only : goal.returns-then-t3-gt4-clause-only
returns-then-t3-gt4-clause-only c = λ info has same.
    let r = c.octets_of_bits-first in
    let are : AreSyncBits c.args.bits.now r.result.0 r.result.1 r.result.2 r.result.3 = record {
      same = r.ensures.same;
      first_octet = search rules;
      second_octet = search rules;
      third_octet = search rules;
      last_bit = r.ensures.bit;
    } in
    let fields = fields_of_bits info c.args.bits.now r.result.0 r.result.1 r.result.2 r.result.3 are has same in
    absurd (omega (arith, fields.reduced, c.if-t3-gt4.true))

pub returns-in-Some-clause-found : goal.returns-in-Some-clause-found
returns-in-Some-clause-found c =
    let r = c.octets_of_bits-first in
    let are : AreSyncBits c.args.bits.now r.result.0 r.result.1 r.result.2 r.result.3 = record {
      same = r.ensures.same;
      first_octet = search rules;
      second_octet = search rules;
      third_octet = search rules;
      last_bit = r.ensures.bit;
    } in
    let info : SchInfo = record { bsic = r.result.0 / 4; frame = c.in-Some.frame } in
    let found = c.in-Some.ensures.found in
    let at1 : info.frame / 1326 ≡ c.from.result * 512 + c.from-2.result * 2 + c.from-3.result = ap (λ (t : FrameTime). t.t1) found.1 in
    let at2 : info.frame % 26 ≡ r.result.2 / 4 % 32 = ap (λ (t : FrameTime). t.t2) found.1 in
    let at3 : info.frame % 51 ≡ 10 * (r.result.2 % 4 * 2 + r.result.3) + 1 = ap (λ (t : FrameTime). t.t3) found.1 in
    let fields : HasFields info r.result.0 r.result.1 r.result.2 r.result.3 = record {
      bsic = refl;
      t1 = omega arith;
      t2 = at2;
      t3 = at3;
      reduced = omega (arith, c.if-t3-gt4.false);
    } in
    let has : HasSch info = (omega arith, found.0, omega arith) in
    (has, bits_of_fields info c.args.bits.now r.result.0 r.result.1 r.result.2 r.result.3 are fields)

pub returns-in-Some-clause-only : goal.returns-in-Some-clause-only
returns-in-Some-clause-only c = λ other has' same.
    let r = c.octets_of_bits-first in
    let are : AreSyncBits c.args.bits.now r.result.0 r.result.1 r.result.2 r.result.3 = record {
      same = r.ensures.same;
      first_octet = search rules;
      second_octet = search rules;
      third_octet = search rules;
      last_bit = r.ensures.bit;
    } in
    let info : SchInfo = record { bsic = r.result.0 / 4; frame = c.in-Some.frame } in
    let found = c.in-Some.ensures.found in
    let at1 : info.frame / 1326 ≡ c.from.result * 512 + c.from-2.result * 2 + c.from-3.result = ap (λ (t : FrameTime). t.t1) found.1 in
    let at2 : info.frame % 26 ≡ r.result.2 / 4 % 32 = ap (λ (t : FrameTime). t.t2) found.1 in
    let at3 : info.frame % 51 ≡ 10 * (r.result.2 % 4 * 2 + r.result.3) + 1 = ap (λ (t : FrameTime). t.t3) found.1 in
    let fields : HasFields info r.result.0 r.result.1 r.result.2 r.result.3 = record {
      bsic = refl;
      t1 = omega arith;
      t2 = at2;
      t3 = at3;
      reduced = omega (arith, c.if-t3-gt4.false);
    } in
    let has : HasSch info = (omega arith, found.0, omega arith) in
    ap Some (reading_some info c.args.bits.now r.result.0 r.result.1 r.result.2 r.result.3 are fields has other has' same)

pub returns-in-None-clause-found : goal.returns-in-None-clause-found
returns-in-None-clause-found c = λ info has same.
    let r = c.octets_of_bits-first in
    let are : AreSyncBits c.args.bits.now r.result.0 r.result.1 r.result.2 r.result.3 = record {
      same = r.ensures.same;
      first_octet = search rules;
      second_octet = search rules;
      third_octet = search rules;
      last_bit = r.ensures.bit;
    } in
    let none : (frame : ℕ) → ¬ IsFrameAt (record {
      t1 = r.result.0 % 4 * 512 + r.result.1 * 2 + r.result.2 / 128;
      t2 = r.result.2 / 4 % 32;
      t3 = 10 * (r.result.2 % 4 * 2 + r.result.3) + 1;
    }) frame = λ frame at. c.in-None.ensures.found frame (rw (c.from.ensures, c.from-2.ensures, c.from-3.ensures) at) in
    reading_none c.args.bits.now r.result.0 r.result.1 r.result.2 r.result.3 are none info has same

pub returns-in-None-clause-only : goal.returns-in-None-clause-only
returns-in-None-clause-only c = λ info has same.
    let r = c.octets_of_bits-first in
    let are : AreSyncBits c.args.bits.now r.result.0 r.result.1 r.result.2 r.result.3 = record {
      same = r.ensures.same;
      first_octet = search rules;
      second_octet = search rules;
      third_octet = search rules;
      last_bit = r.ensures.bit;
    } in
    let none : (frame : ℕ) → ¬ IsFrameAt (record {
      t1 = r.result.0 % 4 * 512 + r.result.1 * 2 + r.result.2 / 128;
      t2 = r.result.2 / 4 % 32;
      t3 = 10 * (r.result.2 % 4 * 2 + r.result.3) + 1;
    }) frame = λ frame at. c.in-None.ensures.found frame (rw (c.from.ensures, c.from-2.ensures, c.from-3.ensures) at) in
    absurd (reading_none c.args.bits.now r.result.0 r.result.1 r.result.2 r.result.3 are none info has same)

pub returns-in-None-clause-none : goal.returns-in-None-clause-none
returns-in-None-clause-none c =
    let r = c.octets_of_bits-first in
    let are : AreSyncBits c.args.bits.now r.result.0 r.result.1 r.result.2 r.result.3 = record {
      same = r.ensures.same;
      first_octet = search rules;
      second_octet = search rules;
      third_octet = search rules;
      last_bit = r.ensures.bit;
    } in
    let none : (frame : ℕ) → ¬ IsFrameAt (record {
      t1 = r.result.0 % 4 * 512 + r.result.1 * 2 + r.result.2 / 128;
      t2 = r.result.2 / 4 % 32;
      t3 = 10 * (r.result.2 % 4 * 2 + r.result.3) + 1;
    }) frame = λ frame at. c.in-None.ensures.found frame (rw (c.from.ensures, c.from-2.ensures, c.from-3.ensures) at) in
    let beyond = t2_beyond r.result.0 r.result.1 r.result.2 r.result.3 are.first_octet are.second_octet are.third_octet are.last_bit
    (omega (arith, c.if-t3-gt4.false)) none in
    let t2 = (numbers_of_bits c.args.bits.now r.result.0 r.result.1 r.result.2 r.result.3 are).0 in
    (λ _. inl (omega arith), λ _. refl)
