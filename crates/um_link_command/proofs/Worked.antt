-- Worked inputs of `link`: the prescribed response, computed.
use Rattle.std.specs.Prelude.{◌≡◌, ◌++◌, List, [], Option, Some, true, codes}
use Rattle.std.proofs.Common.{refl}
use Rattle.std.specs.Fmt.{digits}
use Rattle.um_driver.specs.um_lines.Hex.{encode_with}
use Rattle.um_driver.specs.Outputs.{response}
use Rattle.um_driver.specs.declared.status.Status.TheVariants.{Done, BadInput}
use Rattle.um_link.specs.lapdm_frame.declared.Channel.TheVariants.{Sdcch}
use Rattle.um_script.specs.ScriptLines.{script_line}
use Rattle.um_link_command.specs.Sessions.{link_command_rules, new_session}

-- a mobile asks to open the link, its SABM is lost, and T200 repeats it
opening : response link_command_rules (new_session 0 Sdcch)
    (codes "mob open -\nmob send aa\nmob tick\nmob open 0102030405060708090a0b0c0d0e0f1011121314\n"
    ++ codes "mob open 01\nup lose\nmob tick\n") true ≡ (
      Some Done,
      codes "no empty\nno notopen\nno notrunning\nmob sends 013f510102030405060708090a0b0c0d0e0f1011121314\nok\n"
          ++ codes "no notidle\nok\nmob sends 013f510102030405060708090a0b0c0d0e0f1011121314\nok\n",
    )
unfolding response script_line encode_with digits
opening = refl

refused : response link_command_rules (new_session 0 Sdcch) (codes "up flip 5 5\n") true ≡ (Some BadInput, codes "refused 1 twice\n")
unfolding response script_line encode_with digits
refused = refl
