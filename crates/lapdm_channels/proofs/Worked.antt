-- Worked changes of channel: a message that was delivered but not acknowledged comes twice, and N(SD) tells it. With two such messages, one
-- bit does not.
use Rattle.std.specs.Prelude.{◌≡◌, refl, Bool, nat_eq, List, [], ◌∷◌, None, get_or}
use Rattle.lapdm_end.specs.lapdm_window.segmenting.Segments.{Message}
use Rattle.lapdm_channels.specs.Changes.{Stay, SendsFromUnacked, Alternates, taken_after, delivered_on, TakesEachOnce}

-- messages of two octets, of which the first is N(SD)
abbrev nsd : Message → Bool
nsd m = nat_eq (get_or m 0 0) 1

abbrev a : Message
a = 0 ∷ 5 ∷ []

abbrev b : Message
b = 1 ∷ 6 ∷ []

abbrev c : Message
c = 0 ∷ 7 ∷ []

-- the acknowledgement of the second message is lost with the first channel
abbrev first : Stay
first = record { sent = a ∷ b ∷ []; delivered = a ∷ b ∷ []; acked = 1 }

abbrev second : Stay
second = record { sent = b ∷ c ∷ []; delivered = b ∷ c ∷ []; acked = 2 }

abbrev stays : List Stay
stays = first ∷ second ∷ []

delivered : delivered_on stays ≡ a ∷ b ∷ b ∷ c ∷ []
delivered = refl

taken : taken_after nsd None (delivered_on stays) ≡ a ∷ b ∷ c ∷ []
taken = refl

alternates : Alternates nsd (a ∷ b ∷ c ∷ [])
alternates = (refl, (refl, tt))

sends : SendsFromUnacked (a ∷ b ∷ c ∷ []) stays
sends = ((c ∷ [], refl), (([], refl), tt))

-- two messages that are not acknowledged: the first is taken again
abbrev two_ahead : List Stay
two_ahead = record { sent = a ∷ b ∷ []; delivered = a ∷ b ∷ []; acked = 0 }
    ∷ record { sent = a ∷ b ∷ []; delivered = a ∷ b ∷ []; acked = 2 } ∷ []

twice : taken_after nsd None (delivered_on two_ahead) ≡ a ∷ b ∷ a ∷ b ∷ []
twice = refl

not_once : TakesEachOnce nsd (a ∷ b ∷ c ∷ []) two_ahead → ⊥
not_once h = cc h.in_order.1
