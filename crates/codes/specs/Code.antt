-- What a call answers, as one number of 32 bits. Bits 16 to 23 are a refusal's number, 0 where nothing is refused; bits 0 to 15 are the verdict, or the
-- refusal's row. Bit 31 alone says that the clock moved. Bits 24 to 30 are 0: room for an offset.
use Rattle.std.proofs.Math.Option.{Option, none, some}
use Rattle.std.specs.Prelude.{ℕ, ◌+◌, ◌*◌, ◌<◌, ◌/◌, ◌%◌}
use Rattle.refusals.specs.Refusals.{Refused, row_in}
use Rattle.monitor.specs.Step.{Reply, verdict, clock_moved, refusal}

-- Sixteen bits are left for a verdict.
abbrev pub verdict_room : ℕ
verdict_room = 65_536

-- A refusal's number has eight bits.
abbrev pub number_room : ℕ
number_room = 256

-- "clock moved": bit 31 alone.
abbrev pub moved_code : ℕ
moved_code = 2_147_483_648

-- A refusal's number above the verdict's bits, and its row in them, 0 where it has none.
abbrev pub refusal_code : Refused → ℕ
refusal_code fault = fault.number * verdict_room + row_in fault % verdict_room

-- The verdict; that the clock moved; or the refusal's code.
abbrev pub code_of : Reply → ℕ
code_of (verdict number) = number
code_of clock_moved = moved_code
code_of (refusal fault) = refusal_code fault

-- 0 where nothing is refused and there is nothing else to say.
abbrev pub refused_code : Option Refused → ℕ
refused_code none = 0
refused_code (some fault) = refusal_code fault

-- The number that a code tells, and whether it is a refusal's: "0 where nothing is refused".
abbrev pub number_told : ℕ → ℕ
number_told code = code / verdict_room % number_room

abbrev pub IsRefusal : ℕ → Type 0
IsRefusal code = 0 < number_told code
