-- A SABM that carries what opened an open link is a repeat until the link has heard an I, RR, RNR or REJ, and then a new opening.
use Rattle.std.specs.Prelude.{◌≡◌, true, false}
use Rattle.std.specs.Str.{bytes_eq}
use Rattle.std.proofs.Common.{arith, refl, sym}
use Rattle.std.proofs.lemmas.Slice.Eq.{bytes_eq-Decides}
use Rattle.lapdm_frame.specs.Content.{Frame}
use Rattle.lapdm_end.specs.lapdm_window.segmenting.Segments.{Message}
use Rattle.lapdm_datalink.specs.Links.{LinkState, is_reopened_by_frame, renewed_for, after_received}
use Rattle.lapdm_datalink.specs.Slots.{IsSabmThatOpened, IsRepeat, IsNewOpening, IsSabmInClosing, IsRefused}

same-info : (info : Message) → bytes_eq info info ≡ true
same-info info = (bytes_eq-Decides info info).1 refl

repeats : (f : Frame) (l : LinkState) → IsSabmThatOpened f l → l.heard ≡ false → IsRepeat f l
repeats f l h e =
    grind (arith, e, h.state, h.command, h.content, h.answered, same-info l.endpoint.sabm_info)

opens_again : (f : Frame) (l : LinkState) → IsSabmThatOpened f l → l.heard ≡ true → IsNewOpening f l
opens_again f l h e =
    grind (arith, e, h.state, h.possible, h.command, h.content, h.answered, same-info l.endpoint.sabm_info)

pub sabm_in_open : (f : Frame) (l : LinkState) → IsSabmThatOpened f l →
    (l.heard ≡ false → IsRepeat f l) × (l.heard ≡ true → IsNewOpening f l)
sabm_in_open f l h = (repeats f l h, opens_again f l h)

closed_stays : (f : Frame) (l : LinkState) → is_reopened_by_frame f l ≡ true → l ≡ renewed_for f l
closed_stays f l h = grind (arith, h)

-- a closed link that a frame opens again has heard nothing
pub reopened_unheard : (f : Frame) (l : LinkState) → is_reopened_by_frame f l ≡ true → (after_received f l).heard ≡ false
reopened_unheard f l h = rw (sym (closed_stays f l h)) (grind (arith, h))

-- ---- a SABM in Closing

pub refused : (f : Frame) (l : LinkState) → IsSabmInClosing f l → IsRefused f l
refused f l h = grind (arith, h.state, h.command, h.content)
