use Rattle.{
  std.proofs.Common.{◌≡◌, ◌∙◌, sym, ap, ℕ, ◌+◌, ◌-◌, ◌/◌, ◌%◌, map, take},
  std.{proofs.lemmas.List.FromFn.{take-map-range_with_len, length-map-range_with_len}, specs.List.range_with_len},
  um_make.{specs.Generated.{message_length, message, message_segment_count}, proofs.Lemmas.sent},
}
use Rattle.um_make.proofs.course.SessionProgress.send.Goals as goal

pub returns-clause-event : goal.returns-clause-event
returns-clause-event c =
    let s = c.args.self.now in
    let i = s.message_number + 1 in
    let n = c.message_octet_count-size.result in
    let octet = λ (j : ℕ). (i + j) % 256 in
    let size : n ≡ message_length i = c.message_octet_count-size.ensures.size in
    let octets : c.hold_octets-message.result.now ≡ message i =
    c.hold_octets-message.ensures ∙ ap (take n) c.message_octets-octets.ensures
    ∙ take-map-range_with_len octet 0 251 n c.message_octet_count-size.ensures.most
    ∙ ap (λ (k : ℕ). map octet (range_with_len 0 k)) size in
    let count : (n - 1) / 20 + 1 ≡ message_segment_count i =
    ap (λ (k : ℕ). (k - 1) / 20 + 1) (size ∙ sym (length-map-range_with_len octet 0 (message_length i))) in
    sent s.stage s.messages_left s.message_number s.segments_left s.segment_transmissions _ _ _ c.requires.stage c.requires.none
    c.requires.some
    c.sender.ensures octets count
