-- Worked lines of `make`, and the events and counters of small sessions, counted by hand.
use Rattle.{
  std.{specs.{Fmt.digits, Prelude.{◌≡◌, [], ◌∷◌, ◌++◌, List, None, Some, pos, codes}}, proofs.Common.refl},
  std.specs.List.range_with_len,
  um_link.specs.{
    lapdm_link.Events.{Ask, BySide, Deliver, Lose, Nobody, Open, Send, T200Expiry},
    lapdm_window.{
      Ends.{Mobile, Network},
      declared.{Notice.{Notice, TheVariants.{Acked, Got}}, Sapi.TheVariants.Zero},
    },
    um_air.Air.{Accepts, Answer, Event, Octets},
    um_block.declared.received.Received.Received,
  },
  um_make.specs.{
    Generated.{generated_events, inverted_bits, segment_events},
    Summaries.session_summary,
    Texts.summary_text,
  },
}
use Rattle.um_link.specs.lapdm_link.Events.{Who}
use Rattle.std.specs.Prelude.{Option}

-- The messages 1, 2 and 3 have 38, 75 and 112 octets, the numbers from 1, 2 and 3 on, and 2, 4 and 6 segments. Transmission 8 is lost, so
-- there are 13. Each has two events, the establishment three, and each message one; each sends a block, and each but the lost one has an
-- answer.
text : summary_text 3 5 (record {
  steps = 32;
  sent_blocks = 27;
  good_blocks = 26;
  bad_blocks = 0;
  lost_blocks = 1;
  mobile = record { messages_got = 1; octets = 75; octet_sum = 2925; acked_messages = 2 };
  network = record { messages_got = 2; octets = 150; octet_sum = 7293; acked_messages = 1 };
}) ≡ codes "make 3 5\nsteps 32 sends 27 takes 26 drops 0 lost 1\nmob got 1 octets 75 sum 2925 acked 2\n"
    ++ codes "net got 2 octets 150 sum 7293 acked 1\n"
unfolding digits
text = refl

-- ## Events

one_message : generated_events 1 ≡ Open (1 ∷ []) ∷ Deliver Mobile [] ∷ Deliver Network []
    ∷ Ask Mobile Zero (Send (range_with_len 1 38)) ∷ Deliver Mobile [] ∷ Deliver Network [] ∷ Deliver Mobile []
    ∷ Deliver Network [] ∷ []
one_message = refl

flipped : segment_events Network 4 ≡ Deliver Network (28 ∷ 29 ∷ 78 ∷ []) ∷ Deliver Mobile [] ∷ []
flipped = refl

-- 7 times 172 is 20 more than 2 times 592
flipped_late : inverted_bits 172 ≡ 20 ∷ 21 ∷ 70 ∷ []
flipped_late = refl

lost : segment_events Mobile 8 ≡ Lose Mobile ∷ Ask Mobile Zero T200Expiry ∷ Deliver Mobile [] ∷ Deliver Network [] ∷ []
lost = refl

-- ## Counters: A loss, a message that arrives, a block whose CRC fails, and an acknowledgement with a repeated frame

abbrev block : Option Octets → Received
block accepted = record { u = []; metric = pos 0; tsc = 0; wrong_training = 0; accepted = accepted }

abbrev answer : (who : Who) (received : Option Received) (frames : List Octets) (notices : List Notice) → Answer
answer who received frames notices =
    Accepts (record { who = who; sapi = Zero; received = received; frames = frames; notices = notices })

abbrev events : List Event
events = Lose Mobile ∷ Deliver Mobile [] ∷ Deliver Network [] ∷ Ask Mobile Zero T200Expiry ∷ []

abbrev answers : List Answer
answers = answer Nobody None [] [] ∷ answer (BySide Network) (Some (block (Some []))) ([] ∷ []) (Got (3 ∷ 4 ∷ []) ∷ [])
    ∷ answer (BySide Mobile) (Some (block None)) [] [] ∷ answer (BySide Mobile) None ([] ∷ []) (Acked 1 ∷ []) ∷ []

counted : session_summary events answers ≡ record {
  steps = 4;
  sent_blocks = 2;
  good_blocks = 1;
  bad_blocks = 1;
  lost_blocks = 1;
  mobile = record { messages_got = 0; octets = 0; octet_sum = 0; acked_messages = 1 };
  network = record { messages_got = 1; octets = 2; octet_sum = 7; acked_messages = 0 };
}
counted = refl
