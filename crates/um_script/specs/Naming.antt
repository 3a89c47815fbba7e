-- What the results of the script parser mean.
use Rattle.std.specs.Prelude.{Option, Some, None, Result, Ok, Err}
use Rattle.um_link.specs.um_air.Air as A
use Rattle.um_lines.specs.declared.fault.LineFault.{LineFault}
use Rattle.um_link.specs.declared.events.Event.{Event}
use Rattle.um_link.specs.Naming.{spec_event_of}
use Rattle.um_link.specs.Possible.{IsPossibleEvent}
use Rattle.um_script.specs.declared.script.ScriptLine.{ScriptLine}
use Rattle.um_script.specs.declared.script.ScriptLine.TheVariants.{Skip, Step}
use Rattle.um_script.specs.ScriptReading.{EventOrFault}

-- the event that a script line describes, or `None` if the line is skipped
abbrev pub event_of_script_line : ScriptLine → Option A.Event
event_of_script_line Skip = None
event_of_script_line (Step event) = Some (spec_event_of event)

abbrev pub event_or_fault : Result Event LineFault → EventOrFault
event_or_fault (Ok event) = Ok (Some (spec_event_of event))
event_or_fault (Err fault) = Err fault

-- every bit that the event inverts is a bit of a block: its index is 0 to 591
abbrev pub HasValidBitIndices : ScriptLine → Type 0
HasValidBitIndices Skip = Unit {0}
HasValidBitIndices (Step event) = IsPossibleEvent event
