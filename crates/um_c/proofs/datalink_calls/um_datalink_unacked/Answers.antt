use Rattle.std.proofs.Common.{sym, ap, ◌∙◌, refl, length}
use Rattle.std.specs.Prelude.{slice_get}
use Rattle.std.proofs.lemmas.Option.{slice_get_past, slice_get_read}
use Rattle.um_air.specs.segmenting.Buffers.{message_buffer}
use Rattle.um_c.proofs.DataLinkCalls.{unacked_none, unacked_written, below, not_below}
use Rattle.um_c.proofs.datalink_calls.um_datalink_unacked.Goals as goal

pub returns-in-None : goal.returns-in-None
returns-in-None c =
    let held = c.unacked.result.now in
    unacked_none c.args.sapi c.in-Some.sapi c.in-Some.ensures (c.read_data_link.ensures.read c.if-not-read_data_link.false) c.args.index
    held c.unacked.ensures c.args.message.now
    (ap (slice_get held) (sym c.from.ensures)
    ∙ slice_get_past held c.from.result (not_below c.from.result (length held) c.in-None.ensures.lookup.0))

pub returns-in-Some-get : goal.returns-in-Some-get
returns-in-Some-get c =
    let held = c.unacked.result.now in
    let at = c.in-Some-get.ensures.lookup in
    unacked_written c.args.sapi c.in-Some.sapi c.in-Some.ensures (c.read_data_link.ensures.read c.if-not-read_data_link.false) c.args.index
    held c.unacked.ensures c.args.message.now c.in-Some-get.unacked.now c.write.new.self
    (ap (slice_get held) (sym c.from.ensures)
    ∙ slice_get_read held (length held) c.from.result c.in-Some-get.unacked.now refl
    (below c.from.result (length held) at.0) at.1)
    (c.write.ensures ∙ ap message_buffer c.octets.ensures.value)
