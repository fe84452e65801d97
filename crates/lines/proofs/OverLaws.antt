-- Bytes written over what is there, one after the other.
use mathlib.Core.List.{List, [], ◌∷◌, ◌++◌, append_assoc}
use mathlib.Core.Path.{◌≡◌, sym, ◌∙◌}
use Prim.Native.Nat.{ℕ, suc, ◌+◌, ◌-◌, ◌≤◌, ◌<◌}
use native.Mathlib.Omega.{arith}
use lib.ListN.{length, take, drop, set, length-append, length-drop, take-append-drop}
use lib.Seq.{length-take-le, take_at, drop_at, drop-drop, set_split}
use Rattle.lines.specs.Digits.{overwritten}

module _ (out : List ℕ) (place : ℕ) (within : place ≤ length out) (bytes : List ℕ) where
  -- What stands before the end of what was written.
  head : length (take place out ++ bytes) ≡ place + length bytes
  head = simp (length-append, length-take-le place out within)

  apart : overwritten out place bytes ≡ (take place out ++ bytes) ++ drop (place + length bytes) out
  apart = sym (append_assoc (take place out) bytes (drop (place + length bytes) out))

  pub take_over : take (place + length bytes) (overwritten out place bytes) ≡ take place out ++ bytes
  take_over = rw apart (take_at (take place out ++ bytes) (drop (place + length bytes) out) (place + length bytes) head)

  drop_over : drop (place + length bytes) (overwritten out place bytes) ≡ drop (place + length bytes) out
  drop_over = rw apart (drop_at (take place out ++ bytes) (drop (place + length bytes) out) (place + length bytes) head)

  drop_over_more : (n : ℕ) → drop (place + length bytes + n) (overwritten out place bytes) ≡ drop (place + length bytes + n) out
  drop_over_more n =
      sym (drop-drop n (place + length bytes) (overwritten out place bytes)) ∙ rw drop_over (drop-drop n (place + length bytes) out)

  pub over_over : (more : List ℕ) → overwritten (overwritten out place bytes) (place + length bytes) more ≡ overwritten out place (bytes ++ more)
  over_over more =
      let ends : place + length (bytes ++ more) ≡ place + length bytes + length more = rw length-append (omega arith) in
      rw (take_over, drop_over_more (length more), ends) (simp append_assoc)

  -- What was written fits where the length stayed.
  pub over_fits : length (overwritten out place bytes) ≡ length out → place + length bytes ≤ length out
  over_fits same =
      let sum : length (overwritten out place bytes) ≡ place + length bytes + (length out - (place + length bytes)) =
      rw apart (simp (length-append, length-drop, length-take-le place out within)) in
      omega arith

pub length_over : (out : List ℕ) (place : ℕ) (bytes : List ℕ) → place + length bytes ≤ length out → length (overwritten out place bytes) ≡ length out
length_over out place bytes fits =
    simp (length-append, length-drop, length-take-le place out (omega arith)) (omega arith)

pub over_none : (out : List ℕ) (place : ℕ) → overwritten out place [] ≡ out
over_none out place = let same : place + 0 ≡ place = omega arith in rw same (take-append-drop place out)

-- One byte stored.
pub over_one : (out : List ℕ) (place byte : ℕ) → place < length out → set out place byte ≡ overwritten out place (byte ∷ [])
over_one out place byte within = let on : place + 1 ≡ suc place = omega arith in rw on (set_split out place byte within)
