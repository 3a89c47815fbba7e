-- A worked sender: of the second half of a time slot, over the end of a hyperframe. Each burst of the block that waits is sent.
use Rattle.{
  std.proofs.Common.{List, [], arith, refl, ap, ℕ, ◌∷◌, ◌≡◌},
  tdma.specs.declared.channels.Direction.TheVariants.Uplink,
  tdma.specs.declared.traffic.TrafficChannel.TheVariants.HalfRate1,
  um_traffic.specs.Senders.{Sends, SendsAll, SendsBlock, Sent, new_sender, send},
  um_traffic.specs.declared.senders.{Sending.TheVariants.Burst, TrafficSender.TrafficSender},
  um_traffic.specs.declared.settings.TrafficSettings.TrafficSettings,
}

-- the bursts that a sender is asked for one after another
abbrev bursts_of : (sender : TrafficSender) (frames : List ℕ) → List (List ℕ)
bursts_of s [] = []
bursts_of s (f ∷ fs) = (send f s []).burst ∷ bursts_of (send f s []).sender fs

-- each is sent
abbrev AreSent : (sender : TrafficSender) (frames : List ℕ) → Type 0
AreSent s [] = Unit {0}
AreSent s (f ∷ fs) = ((send f s []).answer ≡ Burst) × AreSent (send f s []).sender fs

sends_one : (s : TrafficSender) (f : ℕ) → (send f s []).answer ≡ Burst → Sends s f (send f s []).burst (send f s []).sender
sends_one s f e =
    let x = send f s [] in record {
      before = [];
      mid = x.sender;
      waiting = x.sender.waiting;
      sends = ap (λ answer. (let y : Sent = record { sender = x.sender; answer = answer; burst = x.burst } in y)) e;
      new_is = refl;
    }

sends_all : (s : TrafficSender) (fs : List ℕ) → AreSent s fs → SendsAll s fs (bursts_of s fs)
sends_all s [] h = h
sends_all s (f ∷ fs) h = ((send f s []).sender, sends_one s f h.0, sends_all (send f s []).sender fs h.1)

-- a sender that was given a block
abbrev given_one : (block : List (List ℕ)) → TrafficSender
given_one block = record (new_sender 2 1 5) { waiting = record { kind = 2; bursts = block } }

module _ (block : List (List ℕ)) where
  abbrev six : List ℕ
  six = 2715640 ∷ 2715642 ∷ 2715644 ∷ 2715646 ∷ 1 ∷ 3 ∷ []

  half_rate : SendsBlock (given_one block) (bursts_of (given_one block) six)
  half_rate = record {
    settings = record { channel = HalfRate1; direction = Uplink };
    first = 1253372;
    frames = six;
    set = refl;
    waits = λ e. omega (arith, e);
    begins = refl;
    within = omega arith;
    not_begun = λ e. omega (arith, e);
    frames_are = ((_, refl, refl), ((_, refl, refl), ((_, refl, refl), ((_, refl, refl), ((_, refl, refl), ((_, refl, refl), tt {0}))))));
    all = refl;
    sends = sends_all _ six (refl, (refl, (refl, (refl, (refl, (refl, tt {0}))))));
  }

-- of a sender to which no block was given nothing is said
none_waits : (bursts : List (List ℕ)) → ¬ SendsBlock (new_sender 0 0 5) bursts
none_waits bursts h = h.waits refl
