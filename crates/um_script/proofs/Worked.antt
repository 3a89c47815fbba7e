-- Worked answers: each word and each number is in its place. docs/COMMANDS.md has these lines.
use Rattle.{
  std.{specs.Prelude.{◌≡◌, [], ◌∷◌, ◌++◌, List, ℕ, Some, pos, negsuc, replicate, codes}, proofs.Common.refl},
  std.specs.Fmt.digits,
  um_lines.specs.Hex.encode_with,
  um_link.specs.{
    lapdm_link.Events.{AirFull, BySide, Nothing, OtherMobile, RefusedByEndpoint},
    lapdm_window.{
      Ends.{Mobile, Network},
      declared.{
        Notice.TheVariants.{Acked, Closed, Got, Opened, Oversize, Unit as UnitData},
        Reason.TheVariants.{Contention, Failed, Refused, Released},
        Refused.TheVariants.{Empty, Full, NotIdle, NotOpen, NotRunning, TooLong},
        Sapi.TheVariants.{Three, Zero},
      },
    },
    um_air.Air.{Accepts, Refuses},
  },
  um_script.specs.AnswerLines.{Drops, FinalOk, Reports, Sends, Takes, answer_line_text, answer_text},
}

-- the SABM with the octet 01, and the UA to it
abbrev sabm : List ℕ
sabm = 1 ∷ 63 ∷ 5 ∷ 1 ∷ replicate 19 43

abbrev ua : List ℕ
ua = 1 ∷ 115 ∷ 5 ∷ 1 ∷ replicate 19 43

-- ## Received blocks and frames sent

takes : answer_line_text (Takes (BySide Network) sabm (record { tsc = 0; wrong_training = 3; metric = pos 57404 }))
    ≡ codes "net takes 013f05012b2b2b2b2b2b2b2b2b2b2b2b2b2b2b2b2b2b2b tsc 0 train 3 metric 57404\n"
unfolding digits encode_with
takes = refl

drops : answer_line_text (Drops (BySide Mobile) (record { tsc = 5; wrong_training = 2; metric = negsuc 6 }) (1 ∷ replicate 22 0)
    (2 ∷ replicate 4 0))
    ≡ codes "mob drops tsc 5 train 2 metric -7 data 0100000000000000000000000000000000000000000000 check 0200000000\n"
unfolding digits encode_with
drops = refl

sends : answer_line_text (Sends OtherMobile sabm) ≡ codes "rival sends 013f05012b2b2b2b2b2b2b2b2b2b2b2b2b2b2b2b2b2b2b\n"
unfolding encode_with
sends = refl

-- ## Notices, on SAPI 0 and on SAPI 3

opened : answer_line_text (Reports (BySide Network) Three (Opened [])) ≡ codes "net3 opened -\n"
opened = refl

got : answer_line_text (Reports (BySide Network) Zero (Got (170 ∷ 11 ∷ []))) ≡ codes "net got aa0b\n"
unfolding encode_with
got = refl

unit : answer_line_text (Reports (BySide Mobile) Three (UnitData (1 ∷ 2 ∷ []))) ≡ codes "mob3 unit 0102\n"
unfolding encode_with
unit = refl

acked : answer_line_text (Reports (BySide Mobile) Zero (Acked 12)) ≡ codes "mob acked 12\n"
unfolding digits
acked = refl

oversize : answer_line_text (Reports (BySide Network) Zero Oversize) ≡ codes "net oversize\n"
oversize = refl

contention : answer_line_text (Reports (BySide Mobile) Zero (Closed Contention)) ≡ codes "mob closed contention\n"
contention = refl

failed : answer_line_text (Reports (BySide Network) Zero (Closed Failed)) ≡ codes "net closed failed\n"
failed = refl

refused_link : answer_line_text (Reports (BySide Mobile) Three (Closed Refused)) ≡ codes "mob3 closed refused\n"
refused_link = refl

released : answer_line_text (Reports (BySide Mobile) Zero (Closed Released)) ≡ codes "mob closed released\n"
released = refl

-- ## Refusals

nothing : answer_text (Refuses Nothing) ≡ codes "no nothing\n"
nothing = refl

air_full : answer_text (Refuses AirFull) ≡ codes "no airfull\n"
air_full = refl

not_idle : answer_text (Refuses (RefusedByEndpoint NotIdle)) ≡ codes "no notidle\n"
not_idle = refl

not_open : answer_text (Refuses (RefusedByEndpoint NotOpen)) ≡ codes "no notopen\n"
not_open = refl

not_running : answer_text (Refuses (RefusedByEndpoint NotRunning)) ≡ codes "no notrunning\n"
not_running = refl

empty : answer_text (Refuses (RefusedByEndpoint Empty)) ≡ codes "no empty\n"
empty = refl

too_long : answer_text (Refuses (RefusedByEndpoint TooLong)) ≡ codes "no toolong\n"
too_long = refl

full : answer_text (Refuses (RefusedByEndpoint Full)) ≡ codes "no full\n"
full = refl

-- ## A whole answer: the block received, the notices, the frames sent, and `ok`

whole : answer_text (Accepts (record {
  who = BySide Network;
  sapi = Zero;
  received = Some (record { u = []; metric = pos 57404; tsc = 0; wrong_training = 0; accepted = Some sabm });
  frames = ua ∷ [];
  notices = Opened (1 ∷ []) ∷ [];
})) ≡ codes "net takes 013f05012b2b2b2b2b2b2b2b2b2b2b2b2b2b2b2b2b2b2b tsc 0 train 0 metric 57404\nnet opened 01\n"
    ++ codes "net sends 017305012b2b2b2b2b2b2b2b2b2b2b2b2b2b2b2b2b2b2b\nok\n"
unfolding digits encode_with
whole = refl

final : answer_line_text FinalOk ≡ codes "ok\n"
final = refl
