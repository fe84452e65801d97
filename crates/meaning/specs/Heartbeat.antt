-- Heartbeats (document 02, E2): "a frame or event with bit 31 set only moves the clock". The others are true events, and a history holds no other.
use Rattle.std.specs.Prelude.{Bool, cond, List, [], ◌∷◌, ℕ}
use Rattle.meaning.specs.History.{Event, History, BitSet}
use Rattle.meaning.specs.Computed.{bit_set?}

abbrev pub heartbeat_bit : ℕ
heartbeat_bit = 31

-- "its other bits are ignored".
abbrev pub Heartbeat : ℕ → Type 0
Heartbeat mask = BitSet heartbeat_bit mask

abbrev pub heartbeat? : ℕ → Bool
heartbeat? mask = bit_set? heartbeat_bit mask

-- The true events among all, heartbeats too, the newest first.
unfoldable pub true_events : List Event → History
true_events [] = []
true_events (e ∷ all) = cond (heartbeat? e.mask) (true_events all) (e ∷ true_events all)
