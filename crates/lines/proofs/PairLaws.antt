-- Digits taken two by two: what is left after so many pairs, and the value of the next pair.
use mathlib.Core.List.{List, ◌++◌}
use mathlib.Core.Path.{◌≡◌, sym, ap, ◌∙◌}
use Prim.Native.Nat.{ℕ, ◌+◌, ◌-◌, ◌*◌, ◌/◌, ◌^◌, ◌≤◌, ◌<◌}
use native.Mathlib.Nat.{zero-add}
use native.Mathlib.Numerals.{add-one}
use native.Mathlib.Omega.{arith}
use lib.ListN.{length, get_or, drop, get_or-append, length-append, length-drop}
use lib.Seq.{get_or-drop, drop_at, drop-drop}
use Rattle.lines.specs.Digits.{byte_at, byte_digits, byte_values, hex_at}
use Rattle.lines.specs.Line.{sum_at}
use Rattle.lines.proofs.LineLaws.{sum_at-most}
use Rattle.lines.proofs.AgreeLaws.{hex_agree}

pub record PairsLeft (digits rest : List ℕ) (k : ℕ) : Type 0 where
  pub within : byte_digits * k ≤ length digits
  pub left : rest ≡ drop (byte_digits * k) digits

pub pairs_none : (digits rest : List ℕ) → rest ≡ digits → PairsLeft digits rest 0
pairs_none digits rest all = record { within = omega arith; left = all }

-- The next pair of what is left.
module _ (digits rest pair next : List ℕ) (k : ℕ)
    (left : PairsLeft digits rest k) (split : rest ≡ pair ++ next) (two : length pair ≡ byte_digits) where
  parts : pair ++ next ≡ drop (byte_digits * k) digits
  parts = sym split ∙ left.left

  sizes : byte_digits + length next ≡ length digits - byte_digits * k
  sizes = ap (λ n. n + length next) (sym two) ∙ sym (length-append pair next) ∙ ap length parts ∙ length-drop (byte_digits * k) digits

  pub pairs_more : PairsLeft digits next (k + 1)
  pairs_more =
      let size : byte_digits + length next ≡ length digits - byte_digits * k = sizes in
      let before : byte_digits * k ≤ length digits = left.within in
      let on : byte_digits * k + byte_digits ≡ byte_digits * (k + 1) = omega arith in
      record {
        within = omega arith;
        left = sym (drop_at pair next byte_digits two) ∙ ap (drop byte_digits) parts ∙ drop-drop byte_digits (byte_digits * k) digits ∙ rw on;
      }

  same : (i : ℕ) → i < byte_digits → byte_at digits (byte_digits * k + i) ≡ byte_at pair i
  same i below =
      sym (get_or-drop (byte_digits * k) digits i 0)
      ∙ ap (λ (l : List ℕ). get_or l i 0) (sym parts)
      ∙ get_or-append pair next 0 i (omega (arith, two))

  pub pair_value : hex_at digits (byte_digits * k) byte_digits ≡ hex_at pair 0 byte_digits
  pair_value =
      let here : byte_digits * k + 0 ≡ byte_digits * k = omega arith in
      rw here at (hex_agree digits pair (byte_digits * k) byte_digits same 0 byte_digits (omega arith))

pub pairs_end : (digits rest : List ℕ) (k : ℕ) → PairsLeft digits rest k → length rest < byte_digits → k ≡ length digits / byte_digits
pairs_end digits rest k left few =
    let size : length rest ≡ length digits - byte_digits * k = ap length left.left ∙ length-drop (byte_digits * k) digits in
    let within : byte_digits * k ≤ length digits = left.within in
    omega arith

-- The sum of one pair more.
module _ (digits : List ℕ) (k sum value : ℕ) (before : sum ≡ sum_at digits 0 k) where
  pub sum_more : value ≡ hex_at digits (byte_digits * k) byte_digits → sum + value ≡ sum_at digits 0 (k + 1)
  unfolding sum_at
  sum_more is = rw (add-one, zero-add, ← before, ← is)

  pub sum-room : k < 2 ^ 32 → value < byte_values → sum + value < 2 ^ 64
  sum-room few below = let most : sum_at digits 0 k ≤ 255 * k = sum_at-most digits 0 k in omega arith
