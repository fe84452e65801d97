-- The limit of times (document 01, "Spans, store and record" and "Refusal numbers"), and how many bits a mask has.
use Rattle.std.specs.Prelude.{ℕ}

-- "281,474,976,710,655": no accepted time is over this.
abbrev pub time_limit : ℕ
time_limit = 281_474_976_710_655

-- The last of them is the heartbeat's: `heartbeat_bit` of the meaning.
abbrev pub mask_bits : ℕ
mask_bits = 32
