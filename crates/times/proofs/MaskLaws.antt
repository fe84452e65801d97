-- The bits of a mask.
use Rattle.std.proofs.Common.{◌≡◌, ℕ, ◌/◌, ◌^◌, ◌<◌, ◌≤◌, false, refl, lt_of_lt_of_le, pow_mono}
use native.Mathlib.Nat.{div-eq_of_lt}
use Rattle.meaning.specs.Computed.{bit_set?}
use Rattle.times.specs.Times.{mask_bits}

-- A mask has no bit past its last.
pub bit_past : (mask x : ℕ) → mask < 2 ^ mask_bits → mask_bits ≤ x → bit_set? x mask ≡ false
bit_past mask x h past =
    let none : mask / 2 ^ x ≡ 0 = div-eq_of_lt (lt_of_lt_of_le h (pow_mono past)) in
    rw none refl
