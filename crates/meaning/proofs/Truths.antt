-- Laws of `&&`, what is never so, and going by a test.
use mathlib.Core.Bool.{Bool, true, false, ◌&&◌}
use mathlib.Core.Path.{◌≡◌, refl}
use native.Mathlib.Omega.{arith}
use Prim.Native.Nat.{ℕ}

-- Where two constructors are taken for the same, `cc` gives 0 for 1.
pub zero_not_one : ¬ (◌≡◌ {A = ℕ} 0 1)
zero_not_one same = omega arith

pub no_truth : ¬ (false ≡ true)
no_truth h = zero_not_one cc

pub and_false : (a : Bool) → (a && false) ≡ false
and_false true = refl
and_false false = refl

pub and_left : (a b : Bool) → (a && b) ≡ true → a ≡ true
and_left true b h = refl
and_left false b h = h

pub and_right : (a b : Bool) → (a && b) ≡ true → b ≡ true
and_right true b h = h
and_right false b h = absurd (no_truth h)

-- Of two pairs, the firsts and the seconds.
pub and_pairs : (a b c d : Bool) → ((a && b) && (c && d)) ≡ ((a && c) && (b && d))
and_pairs false b c d = refl
and_pairs true true c d = refl
and_pairs true false true d = refl
and_pairs true false false d = refl

-- Going by the outcome of a test.
pub by_test : {A : Type 0} (test : Bool) → (test ≡ true → A) → (test ≡ false → A) → A
by_test true holds fails = holds refl
by_test false holds fails = fails refl
