use Rattle.{
  std.proofs.Common.{◌+◌, ◌-◌, refl},
  fire_repair.{
    specs.{declared.repairs.RepairAnswer.TheVariants.{Holds, NoRepair, Repaired}, Answers.IsRepairResult},
    proofs.{BurstBits.AreFirstAndLastBit, RepairResults.{HasSyndrome, no_answer, one_answer, repaired, some_shape}, Syndromes.burst_at},
  },
}
use Rattle.fire_repair.proofs.repairs.repair.Goals as goal

pub returns-then-syndrome-eq0 : goal.returns-then-syndrome-eq0
returns-then-syndrome-eq0 c =
    let holds = c.xcch_syndrome-syndrome.ensures.zero.0 c.if-syndrome-eq0.true in
    record { answer = holds; only = λ other due. one_answer c.args.w.now other Holds due holds }

pub first_and_last_wrong_bit-first-requires-clause-nonzero : goal.first_and_last_wrong_bit-first-requires-clause-nonzero
first_and_last_wrong_bit-first-requires-clause-nonzero c =
    let s = c.xcch_syndrome-syndrome in
    let has : HasSyndrome c.args.w.now s.result = search (c.if-syndrome-eq0.false, s.ensures.zero.1) in
    let says = c.in-Some.ensures in
    some_shape c.args.w.now s.ensures.count s.ensures.bits s.result has (burst_at c.in-Some.found says.start says.shape) says.leaves

pub returns-in-None : goal.returns-in-None
returns-in-None c =
    let w = c.args.w.now in
    let s = c.xcch_syndrome-syndrome in
    let has : HasSyndrome w s.result = search (c.if-syndrome-eq0.false, s.ensures.zero.1) in
    let due = no_answer w s.ensures.count s.ensures.bits s.result has (c.in-None.ensures.none refl) in
    record { answer = due; only = λ other due'. one_answer w other NoRepair due' due }

pub returns-in-Some : goal.returns-in-Some
returns-in-Some c =
    let w = c.args.w.now in
    let s = c.xcch_syndrome-syndrome in
    let has : HasSyndrome w s.result = search (c.if-syndrome-eq0.false, s.ensures.zero.1) in
    let found = c.in-Some.found in
    let says = c.in-Some.ensures in
    let first = c.first_and_last_wrong_bit-first.result.0 in
    let last = c.first_and_last_wrong_bit-first.result.1 in
    let edges : AreFirstAndLastBit found.shape first last = assumption c.first_and_last_wrong_bit-first.ensures in
    let due : IsRepairResult w (Repaired c.flip_error_burst.result (found.start + first) (last - first + 1)) =
    rw c.flip_error_burst.ensures
    (repaired w s.ensures.count s.ensures.bits s.result has (burst_at found says.start says.shape) first last says.leaves edges) in
    record {
      answer = due;
      only = λ other due'. one_answer w other _ due' due;
    }
