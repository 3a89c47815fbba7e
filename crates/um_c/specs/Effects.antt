-- How the frames and notices of a call are stored in the C struct `um_effects` (this project's own layout).
use Rattle.std.specs.Prelude.{ℕ, ◌-◌, List, [], ◌++◌, length, replicate, map}
use Rattle.um_air.specs.lapdm_window.declared.Notice.{Notice}
use Rattle.um_air.specs.lapdm_window.declared.Notice.TheVariants as N
use Rattle.um_air.specs.lapdm_window.declared.Reason.{Reason}
use Rattle.um_air.specs.lapdm_window.declared.Reason.TheVariants as R
use Rattle.um_air.specs.segmenting.Buffers.{message_buffer}
use Rattle.um_c.specs.declared.effects.CNotice.{CNotice}
use Rattle.um_c.specs.declared.effects.CEffects.{CEffects}

-- the number in the C API of the reason why a link was closed, 0 to 3
abbrev pub reason_number : Reason → ℕ
reason_number R.Contention = 0
reason_number R.Failed = 1
reason_number R.Refused = 2
reason_number R.Released = 3

-- the C struct of a notice with this kind, message number, reason and octets
abbrev pub c_notice_of_fields : (kind number reason : ℕ) (octets : List ℕ) → CNotice
c_notice_of_fields kind number reason octets = record { number = number; kind = kind; reason = reason; message = message_buffer octets }

-- the contents of an unused element of the array of notices
abbrev pub blank_notice : CNotice
blank_notice = c_notice_of_fields 0 0 0 []

-- the C struct of a notice, with kind 1 to 6
abbrev pub c_notice : Notice → CNotice
c_notice (N.Opened info) = c_notice_of_fields 1 0 0 info
c_notice (N.Got m) = c_notice_of_fields 2 0 0 m
c_notice (N.Unit m) = c_notice_of_fields 3 0 0 m
c_notice (N.Acked number) = c_notice_of_fields 4 number 0 []
c_notice N.Oversize = c_notice_of_fields 5 0 0 []
c_notice (N.Closed reason) = c_notice_of_fields 6 0 (reason_number reason) []

-- the C struct of these frames and notices, in order, with zeros in the unused array elements
abbrev pub c_effects : (frames : List (List ℕ)) (notices : List Notice) → CEffects
c_effects frames notices = record {
  notices = map c_notice notices ++ replicate (3 - length notices) blank_notice;
  notice_count = length notices;
  frame_count = length frames;
  frames = frames ++ replicate (2 - length frames) (replicate 23 0);
}
