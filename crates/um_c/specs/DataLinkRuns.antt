-- A C program that connects two data links: it keeps their structs, calls them in any order, and carries the blocks between them.
use Rattle.std.specs.Prelude.{ℕ, ◌≡◌, ◌==◌, Bool, false, if◌then◌else◌, List, [], ◌∷◌, ◌++◌, length, take}
use Rattle.std.specs.Prelude.{Option, Some, None}
use Rattle.std.specs.List.{cons_option}
use Rattle.lapdm_frame.specs.declared.Channel.{Channel}
use Rattle.lapdm_frame.specs.Content.{Frame, fill_frame}
use Rattle.lapdm_frame.specs.Frames.{IsFrameCoding}
use Rattle.um_air.specs.lapdm_window.declared.Sapi.{Sapi}
use Rattle.um_air.specs.lapdm_window.declared.Sapi.TheVariants.{Zero, Three}
use Rattle.um_air.specs.lapdm_window.declared.Notice.{Notice}
use Rattle.um_air.specs.segmenting.Segments.{Message}
use Rattle.um_air.specs.lapdm_window.Ends.{Role, command_cr}
use Rattle.um_air.specs.lapdm_window.Calls.{Call, SendsUi}
use Rattle.um_air.specs.lapdm_link.Queues.{Queues, empty_queues, queue_of, with_items_appended, without_oldest_item}
use Rattle.um_air.specs.lapdm_link.Events.{other}
use Rattle.um_air.specs.lapdm_link.Claims.{LogLine, Asked, Notified}
use Rattle.lapdm_datalink.specs.Links.{IsLinkCall, is_reopened_by_call}
use Rattle.lapdm_datalink.specs.DataLinks.{DataLinkState, initial_data_link, link_with_sapi, having_main}
use Rattle.lapdm_datalink.specs.declared.data_links.Establishment.{Establishment}
use Rattle.lapdm_delivery.specs.Runs.{OpensNoClosedLink}
use Rattle.um_c.specs.declared.datalinks.CDataLink.{CDataLink}
use Rattle.um_c.specs.declared.datalinks.CReport.{CReport}
use Rattle.um_c.specs.declared.effects.CNotice.{CNotice}
use Rattle.um_c.specs.States.{sapi_of, sapi_number}
use Rattle.um_c.specs.Joined.{notice_from_c}
use Rattle.um_air.specs.lapdm_link.Carriers.{FirstSatisfies}
use Rattle.um_c.specs.DataLinkCalls.{RepresentsDataLink, IsWrittenFor, DataLinkAnswersCall, DataLinkChanges, DataLinkReceivesBlock}
use Rattle.um_c.specs.DataLinkCalls.{DataLinkFillsSlot, DataLinkEncodesUnit}

-- the state of the program: the struct of each side, and the blocks in transit
pub record PairState : Type 0 where
  pub struct_of : Role → CDataLink
  pub blocks : Queues (List ℕ)

-- one step of the program
pub data PairStep : Type 0 where
  -- layer 3 calls the link of this side and SAPI
  Calls : (role : Role) (sapi : Sapi) (call : Call) (answer : ℕ) → PairStep
  -- the side fills its slot; the block goes out unless it is the fill frame
  Fills : (role : Role) (layer1 block : List ℕ) (answer : ℕ) (report : CReport) → PairStep
  -- the data link leaves the slot free, and a UI frame goes out in it
  FillsByUnit : (role : Role) (sapi : Sapi) (m : Message) (layer1 block : List ℕ) (report : CReport) → PairStep
  -- the side takes the oldest block in transit to it
  Takes : (role : Role) (block : List ℕ) (answer : ℕ) (report : CReport) → PairStep
  -- the side takes the fill frame of the other side; blocks in transit are those with other frames
  TakesFill : (role : Role) (block : List ℕ) (answer : ℕ) (report : CReport) → PairStep
  -- the oldest block from a side is lost
  Loses : (sender : Role) → PairStep
  -- layer 3 says whether the link of SAPI 0 on the main channel is established
  HasMain : (role : Role) (established : Bool) (answer : ℕ) → PairStep

-- the other side's struct stays, and these blocks are in transit after the step
pub record Replaces (role : Role) (before after : PairState) (blocks : Queues (List ℕ)) : Type 0 where
  pub peer : after.struct_of (other role) ≡ before.struct_of (other role)
  pub in_transit : after.blocks ≡ blocks

-- `step` leads from `a` to `b`, and the data link meets the contract of the call
abbrev pub IsPairStep : (a : PairState) (step : PairStep) (b : PairState) → Type 0
IsPairStep a (Calls r s call answer) b =
    IsLinkCall call × DataLinkAnswersCall (sapi_number s) call answer (a.struct_of r) (b.struct_of r) × Replaces r a b a.blocks
IsPairStep a (Fills r layer1 block answer report) b =
    (block_old : List ℕ) × (report_old : CReport) × (length layer1 ≡ 2)
    × DataLinkFillsSlot layer1 answer (a.struct_of r) (b.struct_of r) block_old block report_old report
    × Replaces r a b (with_items_appended r (if answer == 0 then block ∷ [] else []) a.blocks)
IsPairStep a (FillsByUnit r s m layer1 block report) b =
    (fill fill_old block_old : List ℕ) × (report_old : CReport) × (length layer1 ≡ 2)
    × DataLinkFillsSlot layer1 10 (a.struct_of r) (b.struct_of r) fill_old fill report_old report
    × DataLinkEncodesUnit (sapi_number s) m layer1 0 (b.struct_of r) block_old block
    × Replaces r a b (with_items_appended r (block ∷ []) a.blocks)
IsPairStep a (Takes r block answer report) b =
    (report_old : CReport) × DataLinkReceivesBlock block answer (a.struct_of r) (b.struct_of r) report_old report
    × FirstSatisfies (λ first. block ≡ first) (queue_of (other r) a.blocks)
    × Replaces r a b (without_oldest_item (other r) a.blocks)
IsPairStep a (TakesFill r block answer report) b =
    (report_old : CReport) × DataLinkReceivesBlock block answer (a.struct_of r) (b.struct_of r) report_old report
    × ((d : DataLinkState) → RepresentsDataLink (a.struct_of r) d →
    IsFrameCoding d.link0.endpoint.channel (fill_frame (command_cr (other r))) block)
    × Replaces r a b a.blocks
IsPairStep a (Loses sender) b = b ≡ record a { blocks = without_oldest_item sender a.blocks }
IsPairStep a (HasMain r established answer) b =
    DataLinkChanges (having_main established) answer (a.struct_of r) (b.struct_of r) × Replaces r a b a.blocks

-- the step opens no link again that is closed or open
abbrev pub OpensNoneAgain : (a : PairState) (step : PairStep) → Type 0
OpensNoneAgain a (Calls r s call answer) =
    (d : DataLinkState) → RepresentsDataLink (a.struct_of r) d → is_reopened_by_call call (link_with_sapi s d) ≡ false
OpensNoneAgain a (Takes r block answer report) = (d : DataLinkState) → RepresentsDataLink (a.struct_of r) d → (f : Frame) →
    IsFrameCoding d.link0.endpoint.channel f block → OpensNoClosedLink (Some f) d
OpensNoneAgain a step = Unit {0}

-- the program at its start: `um_datalink_new_for` wrote each struct, and no block is in transit
pub record IsPairStart (channel : Channel) (establishment : Establishment) (t200 : Role → Sapi → ℕ) (a : PairState) : Type 0 where
  pub new_struct : (r : Role) → IsWrittenFor (initial_data_link r channel establishment (t200 r Zero) (t200 r Three)) (a.struct_of r)
  pub blocks : a.blocks ≡ empty_queues

-- the steps lead from `a` to `z`, and none opens a link again
abbrev pub IsPairRun : (a : PairState) (steps : List PairStep) (z : PairState) → Type 0
IsPairRun a [] z = z ≡ a
IsPairRun a (step ∷ steps) z = OpensNoneAgain a step × (b : PairState) × IsPairStep a step b × IsPairRun b steps z

-- the log lines of a report
abbrev pub report_line : Role → Option Sapi → Option Notice → Option LogLine
report_line r (Some s) (Some n) = Some (Notified r s n)
report_line r s n = None

abbrev pub report_lines_from : Role → (sapis : List ℕ) (notices : List CNotice) → List LogLine
report_lines_from r (s ∷ sapis) (n ∷ notices) =
    cons_option (report_line r (sapi_of s) (notice_from_c n)) (report_lines_from r sapis notices)
report_lines_from r sapis notices = []

abbrev pub report_lines : Role → CReport → List LogLine
report_lines r report = report_lines_from r (take report.notice_count report.sapis) (take report.notice_count report.notices)

-- the log lines of a step, from what the call returned and wrote alone
abbrev pub pair_lines : PairStep → List LogLine
pair_lines (Calls r s call answer) = if answer == 0 then Asked r s call ∷ [] else []
pair_lines (Fills r layer1 block answer report) = report_lines r report
pair_lines (FillsByUnit r s m layer1 block report) = report_lines r report ++ Asked r s (SendsUi m) ∷ []
pair_lines (TakesFill r block answer report) = if answer == 0 then report_lines r report else []
pair_lines (Takes r block answer report) = if answer == 0 then report_lines r report else []
pair_lines step = []

-- the log of these steps: the log lines of all, in order
abbrev pub pair_log : List PairStep → List LogLine
pair_log [] = []
pair_log (step ∷ steps) = pair_lines step ++ pair_log steps
