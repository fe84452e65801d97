-- Laws of a truth as a byte.
use mathlib.Core.Bool.{Bool, true, false}
use mathlib.Core.Path.{◌≡◌, refl}
use Prim.Native.Nat.{ℕ, ◌≤◌}
use native.Mathlib.Omega.{arith}
use borrow.Author.Tests.{eqb-false}
use mir.Val.{bool_byte}
use Rattle.row_list.specs.Truths.{byte_of, is_true}

-- The machine's cast.
pub byte_told : (truth : Bool) → bool_byte truth ≡ byte_of truth
byte_told true = refl
byte_told false = refl

-- A byte that was made of a truth tells it, and is 0 or 1.
pub byte_back : (truth : Bool) → is_true (byte_of truth) ≡ truth
byte_back true = refl
byte_back false = refl

pub byte_small : (truth : Bool) → byte_of truth ≤ 1
byte_small true = omega arith
byte_small false = omega arith

-- A byte that is 0 or 1 and does not tell true is 0.
pub byte_unset : (byte : ℕ) → byte ≤ 1 → is_true byte ≡ false → byte ≡ 0
byte_unset byte small unset = let other : ¬ (byte ≡ 1) = eqb-false byte 1 unset in omega arith
