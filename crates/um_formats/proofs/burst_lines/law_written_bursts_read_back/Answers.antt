use Rattle.{
  std.proofs.{Common.codes, lemmas.List.append_cancel_right},
  um_formats.proofs.BurstLines.{access_line, access_restored, access_whole, normal_line, normal_restored, normal_whole, sync_line},
  um_formats.proofs.BurstLines.{sync_restored, sync_whole},
}
use Rattle.um_formats.proofs.burst_lines.law_written_bursts_read_back.Goals as goal

pub returns-clause-normal : goal.returns-clause-normal
returns-clause-normal c held burst line many each text =
    rw (← append_cancel_right (normal_line burst) line (codes "\n") text)
    (normal_whole burst many each, normal_restored held burst many each)

pub returns-clause-access : goal.returns-clause-access
returns-clause-access c bsic burst line few bits many each text =
    rw (← append_cancel_right (access_line bsic burst) line (codes "\n") text)
    (access_whole bsic burst few bits many each, access_restored bsic burst few bits many each)

pub returns-clause-sync : goal.returns-clause-sync
returns-clause-sync c burst line many each text =
    rw (← append_cancel_right (sync_line burst) line (codes "\n") text) (sync_whole burst many each, sync_restored burst many each)
