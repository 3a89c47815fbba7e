-- Worked inputs of `show`: the prescribed response, computed.
use Rattle.{
  std.{specs.{Fmt.digits, Prelude.{Some, codes, true, ◌≡◌}}, proofs.Common.refl},
  um_driver.specs.{um_lines.Hex.encode_with, Outputs.response, declared.status.Status.TheVariants.{Done, BadInput}},
  um_formats.specs.{FrameTexts.text_of_octets, ShowLines.show_line, lapdm_frame.Computed.frame_reading},
  um_show.specs.Show.show_command_rules,
}

i_frame : response show_command_rules tt (codes "frame sapi 0 cr 0 i ns 5 nr 2 p 1 m 0 info 0601\n") true ≡ (
  Some Done,
  codes "octets 015a0906012b2b2b2b2b2b2b2b2b2b2b2b2b2b2b2b2b2b\n",
)
unfolding response show_line encode_with digits
i_frame = refl

rr_frame : response show_command_rules tt (codes "frame sapi 0 cr 1 rr nr 7 pf 0\n") true ≡ (
  Some Done,
  codes "octets 03e1012b2b2b2b2b2b2b2b2b2b2b2b2b2b2b2b2b2b2b2b\n",
)
unfolding response show_line encode_with digits
rr_frame = refl

refused : response show_command_rules tt (codes "frame sapi 0 cr 0 i ns 0 nr 0 p 0 m 0 info -\n") true ≡ (
  Some BadInput,
  codes "refused 1 length\n",
)
unfolding response show_line encode_with digits
refused = refl

ui_frame : response show_command_rules tt (codes "octets 0103012b2b2b2b2b2b2b2b2b2b2b2b2b2b2b2b2b2b2b2b\n") true ≡ (
  Some Done,
  codes "frame sapi 0 cr 0 ui p 0 info -\n",
)
unfolding response show_line digits text_of_octets frame_reading
ui_frame = refl

other_fill : response show_command_rules tt (codes "octets 030301ffffffffffffffffffffffffffffffffffffffff\n") true ≡ (
  Some Done,
  codes "frame sapi 0 cr 1 ui p 0 info -\n",
)
unfolding response show_line digits text_of_octets frame_reading
other_fill = refl

rnr_frame : response show_command_rules tt (codes "octets 0375012b2b2b2b2b2b2b2b2b2b2b2b2b2b2b2b2b2b2b2b\n") true ≡ (
  Some Done,
  codes "frame sapi 0 cr 1 rnr nr 3 pf 1\n",
)
unfolding response show_line digits text_of_octets frame_reading
rnr_frame = refl

unread_lpd : response show_command_rules tt (codes "octets 49061b0000000000000000000000000000000000000000\n") true ≡ (
  Some Done,
  codes "unread lpd\n",
)
unfolding response show_line digits text_of_octets frame_reading
unread_lpd = refl

unread_ea : response show_command_rules tt (codes "octets 0000000000000000000000000000000000000000000000\n") true ≡ (
  Some Done,
  codes "unread ea\n",
)
unfolding response show_line digits text_of_octets frame_reading
unread_ea = refl

unread_control : response show_command_rules tt (codes "octets 010d012b2b2b2b2b2b2b2b2b2b2b2b2b2b2b2b2b2b2b2b\n") true ≡ (
  Some Done,
  codes "unread control\n",
)
unfolding response show_line digits text_of_octets frame_reading
unread_control = refl

unread_el : response show_command_rules tt (codes "octets 0103002b2b2b2b2b2b2b2b2b2b2b2b2b2b2b2b2b2b2b2b\n") true ≡ (
  Some Done,
  codes "unread el\n",
)
unfolding response show_line digits text_of_octets frame_reading
unread_el = refl

unread_length : response show_command_rules tt (codes "octets 0100552b2b2b2b2b2b2b2b2b2b2b2b2b2b2b2b2b2b2b2b\n") true ≡ (
  Some Done,
  codes "unread length\n",
)
unfolding response show_line digits text_of_octets frame_reading
unread_length = refl

unread_rr_length : response show_command_rules tt (codes "octets 0101052b2b2b2b2b2b2b2b2b2b2b2b2b2b2b2b2b2b2b2b\n") true ≡ (
  Some Done,
  codes "unread length\n",
)
unfolding response show_line digits text_of_octets frame_reading
unread_rr_length = refl

unread_empty : response show_command_rules tt (codes "octets 0100012b2b2b2b2b2b2b2b2b2b2b2b2b2b2b2b2b2b2b2b\n") true ≡ (
  Some Done,
  codes "unread empty\n",
)
unfolding response show_line digits text_of_octets frame_reading
unread_empty = refl

unread_more : response show_command_rules tt (codes "octets 0103032b2b2b2b2b2b2b2b2b2b2b2b2b2b2b2b2b2b2b2b\n") true ≡ (
  Some Done,
  codes "unread more\n",
)
unfolding response show_line digits text_of_octets frame_reading
unread_more = refl
