-- How large the figure and the length of an interval can be.
use mathlib.Core.Bool.{Bool, true, false, cond}
use Prim.Native.Nat.{ℕ, ◌+◌, ◌-◌, ◌/◌, ◌≤◌}
use native.Mathlib.Nat.{le-div_iff_mul-le, div-mul-le_self, mul-le-mul_left, le_trans}
use native.Mathlib.Omega.{arith}
use lib.Dec.{eqb}
use Rattle.meaning.specs.Interval.{end_of, up_to, no_end, no_end_number}
use Rattle.meaning.specs.Figure.{figure}
use Rattle.meaning.specs.Sound.{length_of}

-- A quotient by 2 or more is at most that by 2.
half_most : (b k : ℕ) → b / (k + 2) ≤ b / 2
half_most b k =
    let two : 2 ≤ k + 2 = omega arith in
    (le-div_iff_mul-le {k = 2} {x = b / (k + 2)} {y = b} (omega arith)).1
    (le_trans (mul-le-mul_left (b / (k + 2)) two) (div-mul-le_self b (k + 2)))

most : (a b : ℕ) (endless : Bool) → figure a (cond endless no_end (up_to b)) ≤ b / 2 + 1
unfolding figure
most a b true = omega arith
most a b false = omega (arith, half_most b (b - a))

pub figure-most : (a b : ℕ) → figure a (end_of b) ≤ b / 2 + 1
unfolding end_of
figure-most a b = most a b (eqb b no_end_number)

-- An interval is at most as long as its end.
pub length_most : (a b : ℕ) → length_of a (end_of b) ≤ b
unfolding end_of
length_most a b = go (eqb b no_end_number)
  where
    go : (endless : Bool) → length_of a (cond endless no_end (up_to b)) ≤ b
    go true = omega arith
    go false = omega arith
