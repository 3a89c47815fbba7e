use Rattle.std.proofs.Common.{refl, sym}
use Rattle.tdma.specs.Sync.{sch_bits}
use Rattle.tdma.proofs.Lemmas.{fields_of_bits, same_info, sync_bits_of}
use Rattle.tdma.proofs.laws.law_sch_bits_determine_frame.Goals as goal

pub returns : goal.returns
returns c = λ info other has has' same.
    let b = sync_bits_of info has in
    same_info info other b.0 b.1 b.2 b.3 (fields_of_bits info (sch_bits info) b.0 b.1 b.2 b.3 b.4 has refl)
    (fields_of_bits other (sch_bits info) b.0 b.1 b.2 b.3 b.4 has' (sym same))
