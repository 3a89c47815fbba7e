-- Sources and sinks of octets in memory, for tests (this project's own rules).
use Rattle.std.specs.Prelude.{ℕ, ◌≡◌, ◌<◌, ◌+◌, ◌++◌, ◌⊎◌}
use Rattle.std.specs.Prelude.{min, List, [], length, take, drop, Contains, Option, Some, None}
use Rattle.um_io.specs.Streams.{next_failure_count}

-- a source that never fails: the unread octets, and the maximum number of octets that one call returns
pub record NeverFailingSourceState : Type 0 where
  pub unread : List ℕ
  pub max_per_call : ℕ

-- a source in memory: the unread octets, the maximum number of octets per call, the numbers of the calls that fail, the number of calls
-- so far, and how many of them failed
pub record MemorySourceState : Type 0 where
  pub unread : List ℕ
  pub max_per_call : ℕ
  pub failing_calls : List ℕ
  pub call_count : ℕ
  pub faults : ℕ

-- a sink in memory: the octets taken, its capacity, the maximum number of octets per call, the numbers of the calls that fail, the
-- number of calls so far, and how many of them failed
pub record MemorySinkState : Type 0 where
  pub written : List ℕ
  pub capacity : ℕ
  pub max_per_call : ℕ
  pub failing_calls : List ℕ
  pub call_count : ℕ
  pub faults : ℕ

-- a new source that holds these octets, returns at most `max_per_call` of them per call, and fails on the calls with these numbers
abbrev pub new_source_state : (octets : List ℕ) (max_per_call : ℕ) (failing_calls : List ℕ) → MemorySourceState
new_source_state octets max_per_call failing_calls = record {
  unread = octets;
  max_per_call = max_per_call;
  failing_calls =
      failing_calls;
  call_count = 0;
  faults = 0;
}

-- a new, empty sink that takes `room` octets in all and at most `max_per_call` per call, and fails on the calls with these numbers
abbrev pub new_sink_state : (room max_per_call : ℕ) (failing_calls : List ℕ) → MemorySinkState
new_sink_state room max_per_call failing_calls = record {
  written = [];
  capacity = room;
  max_per_call = max_per_call;
  failing_calls =
      failing_calls;
  call_count = 0;
  faults = 0;
}

-- the number of octets that a successful read returns: as many as are unread, fit into the buffer and are allowed per call
abbrev pub read_octet_count : (max_per_call : ℕ) (unread into : List ℕ) → ℕ
read_octet_count max_per_call left into = min max_per_call (min (length into) (length left))

-- the number of octets that a successful write takes: all of `piece`, but at most `max_per_call`
abbrev pub written_octet_count : (max_per_call : ℕ) (piece : List ℕ) → ℕ
written_octet_count max_per_call piece = min max_per_call (length piece)

-- the destination buffer after a read of the given number of octets: they overwrite its front, and the rest is unchanged
abbrev pub buffer_after_read : (unread : List ℕ) (read_octets : ℕ) (into : List ℕ) → List ℕ
buffer_after_read left n into = take n left ++ drop n into

-- the next call fails, because the list of failing calls contains its number
abbrev pub NextCallFails : (failing_calls : List ℕ) (call_count : ℕ) → Type 0
NextCallFails failing_calls call_count = Contains failing_calls (next_failure_count call_count)

-- the sink refuses the next write: the number of the call is in the list of failing calls, or the octets do not fit in the remaining
-- capacity
abbrev pub SinkRefuses : (state : MemorySinkState) (piece : List ℕ) → Type 0
SinkRefuses s piece = NextCallFails s.failing_calls s.call_count ⊎
    (s.capacity < length s.written + written_octet_count s.max_per_call piece)

-- the state of a source in memory after a call that returned the given number of octets
abbrev pub source_after_read : (state : MemorySourceState) (read_octets : ℕ) → MemorySourceState
source_after_read s n = record s { unread = drop n s.unread; call_count = next_failure_count s.call_count }

-- the state of a source in memory after a failed call
abbrev pub source_after_failure : MemorySourceState → MemorySourceState
source_after_failure s = record s { call_count = next_failure_count s.call_count; faults = next_failure_count s.faults }

-- one call turns the first state of the source into the second: `Some` holds the number of octets returned, `None` means that the call
-- failed
abbrev pub IsMemorySourceCall : (state : MemorySourceState) (read_octets : Option ℕ) (after : MemorySourceState) → Type 0
IsMemorySourceCall s (Some n) t = t ≡ source_after_read s n
IsMemorySourceCall s None t = t ≡ source_after_failure s

-- the state of a sink in memory after a call that took the given number of octets from the front of `piece`
abbrev pub sink_after_write : (state : MemorySinkState) (piece : List ℕ) (written_octets : ℕ) → MemorySinkState
sink_after_write s piece n = record s { written = s.written ++ take n piece; call_count = next_failure_count s.call_count }

-- the state of a sink in memory after a failed call
abbrev pub sink_after_failure : MemorySinkState → MemorySinkState
sink_after_failure s = record s { call_count = next_failure_count s.call_count; faults = next_failure_count s.faults }
