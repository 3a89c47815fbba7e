-- The two queues of items in transit, oldest first: `up` to the network and `down` to the mobile. A queue is identified by the side that
-- sends into it.
use Rattle.std.specs.Prelude.{◌≡◌, ℕ, List, [], ◌∷◌, ◌++◌, length, drop, Option, Some, None}
use Rattle.lapdm_window.specs.Ends.{Role, Mobile, Network}

-- the queues of items in transit, one for each direction
pub record Queues (T : Type 0) : Type 0 where
  pub up : List T
  pub down : List T

-- two empty queues
abbrev pub empty_queues : {T : Type 0} → Queues T
empty_queues = record { up = []; down = [] }

-- the queue of the items that this side sent
abbrev pub queue_of : {T : Type 0} → Role → Queues T → List T
queue_of Mobile ws = ws.up
queue_of Network ws = ws.down

-- the queues after the given items replace the queue of this side
abbrev pub with_queue_replaced : {T : Type 0} (role : Role) (items : List T) (queues : Queues T) → Queues T
with_queue_replaced Mobile xs ws = record ws { up = xs }
with_queue_replaced Network xs ws = record ws { down = xs }

-- the queues without the oldest item that this side sent
abbrev pub without_oldest_item : {T : Type 0} → Role → Queues T → Queues T
without_oldest_item sender ws = with_queue_replaced sender (drop 1 (queue_of sender ws)) ws

-- the queues after the given items are appended to the queue of this side
abbrev pub with_items_appended : {T : Type 0} (sender : Role) (items : List T) (queues : Queues T) → Queues T
with_items_appended sender xs ws = with_queue_replaced sender (queue_of sender ws ++ xs) ws

-- the number of items in the queue of this side
abbrev pub queue_length : {T : Type 0} → Queues T → Role → ℕ
queue_length ws sender = length (queue_of sender ws)

-- an item that arrives, if any, is the first in the list of sent items, that is, the oldest item in transit
abbrev pub IsOldestSentOrNone : {T : Type 0} (arrived : Option T) (sent : List T) → Type 0
IsOldestSentOrNone None sent = Unit {0}
IsOldestSentOrNone (Some x) [] = ⊥
IsOldestSentOrNone (Some x) (first ∷ others) = x ≡ first
