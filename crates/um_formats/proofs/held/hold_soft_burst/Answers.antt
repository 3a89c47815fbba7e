use Rattle.{
  std.{
    proofs.Common.{List, codes, false, length, sym, true, ◌++◌, ◌==◌, ◌∙◌, ◌≡◌, ℕ},
    specs.List.{list_all, list_any},
  },
  um_formats.{proofs.BurstLines.{soft_line, soft_within}, specs.{Held.IsSoftNormalBurstLine, SoftOctets.signed_octets}},
  um_lines.specs.{Fields.octets_from_hex, Hex.is_hex_digit},
}
use Rattle.um_formats.proofs.held.hold_soft_burst.Goals as goal

is_soft : (line digits octets : List ℕ) → (line ≡ codes "N " ++ digits) × (length digits ≡ 296) →
    list_all is_hex_digit digits ≡ true
    → octets ≡ octets_from_hex digits → list_any (λ octet. octet == 128) octets ≡ false → IsSoftNormalBurstLine line digits
is_soft line digits octets form hex is none = record {
  octets = record { line_form = form.0; all_hex_digits = hex; right_length = form.1 };
  in_range = rw is at none;
}

pub add_soft_burst-requires : goal.add_soft_burst-requires
add_soft_burst-requires c =
    let digits = c.in_ok-digits.digits.now in
    let is = c.decode_hex.ensures.octets c.if-not-decode_hex.false in
    let soft = is_soft c.args.line.now digits _ c.in_ok-digits.ensures
    (sym c.decode_hex.ensures.test ∙ c.if-not-decode_hex.false) is (sym c.has_minus_128.ensures ∙ c.if-has_minus_128.false) in
    rw is (soft_within c.args.line.now digits soft)

pub returns : goal.returns
returns c =
    let digits = c.in_ok-digits.digits.now in
    let is = c.decode_hex.ensures.octets c.if-not-decode_hex.false in
    let soft = is_soft c.args.line.now digits _ c.in_ok-digits.ensures
    (sym c.decode_hex.ensures.test ∙ c.if-not-decode_hex.false) is (sym c.has_minus_128.ensures ∙ c.if-has_minus_128.false) in
    let read = soft_line (length c.args.held.now.held) c.args.line.now digits soft in
    record { soft = signed_octets c.decode_hex.new.octets; means = rw is read.0; no_fault = read.1; adds_burst = c.add_soft_burst.ensures }
