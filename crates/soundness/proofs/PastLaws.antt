-- What stands past the rows of a table: numbers put together by their bits are 0 where all of them are.
use mathlib.Core.Bool.{Bool, ◌&&◌, and_assoc}
use mathlib.Core.List.{List, [], ◌∷◌}
use mathlib.Core.Path.{◌≡◌, refl, sym, ap}
use Prim.Native.Nat.{ℕ, zero, suc, ◌+◌, ◌≤◌}
use native.Mathlib.Numerals.{add-one}
use native.Mathlib.Omega.{arith}
use lib.Bits.{bit_or}
use lib.Dec.{eqb}
use lib.ListN.{get_or, take, drop}
use borrow.Author.Tests.{lt-ltb, le-ltb, ne_eqb}
use Rattle.std.specs.List.{fold}
use Rattle.std.specs.Int.Bits.{or_zero_l, or_zero_r}
use Rattle.std.proofs.lemmas.List.{get_or-drop}
use Rattle.std.proofs.lemmas.Nat.{le_or_l}
use Rattle.meaning.proofs.Truths.{and_pairs}
use Rattle.soundness.specs.Soundness.{every, zero_past?}
use Rattle.soundness.proofs.SoundnessLaws.{every-all}

-- Two numbers put together are 0 where both are.
pub or_zero_lem : (x y : ℕ) → eqb (bit_or x y) 0 ≡ (eqb x 0 && eqb y 0)
or_zero_lem zero y = ap (λ n. eqb n 0) (or_zero_l y)
or_zero_lem (suc x) y = rw (ne_eqb (bit_or (suc x) y) 0 (λ none. omega (arith, le_or_l (suc x) y)), ne_eqb (suc x) 0 (λ none. omega arith))

-- One more is put to those before; past the end of the list it is 0.
or_more : (bits : ℕ) (entries : List ℕ) (i : ℕ)
    → fold bit_or bits (take (suc i) entries) ≡ bit_or (fold bit_or bits (take i entries)) (get_or entries i 0)
or_more bits [] zero = sym (or_zero_r bits)
or_more bits [] (suc i) = sym (or_zero_r bits)
or_more bits (entry ∷ entries) zero = refl
or_more bits (entry ∷ entries) (suc i) = or_more (bit_or bits entry) entries i

-- So many entries past the rows, put together; and whether one more leaves 0.
abbrev pub bits_past : (rows : ℕ) → List ℕ → ℕ → ℕ
bits_past rows entries count = fold bit_or 0 (take count (drop rows entries))

one_more : (rows : ℕ) (entries : List ℕ) (count : ℕ)
    → eqb (bits_past rows entries (suc count)) 0 ≡ (eqb (bits_past rows entries count) 0 && eqb (get_or entries (rows + count) 0) 0)
one_more rows entries count =
    rw (or_more 0 (drop rows entries) count, get_or-drop rows entries count 0, or_zero_lem (bits_past rows entries count) (get_or entries (rows + count) 0))

three_pairs : (a b c d e f : Bool) → ((a && b) && (c && d) && (e && f)) ≡ ((a && c && e) && (b && (d && f)))
three_pairs a b c d e f = rw (and_pairs a b c d, and_pairs (a && c) (b && d) e f, and_assoc b d f)

-- Nothing is asked of the rows themselves.
module _ (rows : ℕ) (truths counts firsts : List ℕ) where
  pub past_told : (count : ℕ) → (eqb (bits_past rows truths count) 0 && eqb (bits_past rows counts count) 0 && eqb (bits_past rows firsts count) 0)
      ≡ every (rows + count) (zero_past? rows truths counts firsts)
  unfolding every zero_past?
  past_told zero = sym (every-all (rows + 0) (zero_past? rows truths counts firsts) (λ row lower. rw (lt-ltb row rows (omega arith))))
  past_told (suc count) =
      let next : rows + suc count ≡ suc (rows + count) = omega arith in
      let past : rows ≤ rows + count = omega arith in
      rw (
        one_more rows truths count,
        one_more rows counts count,
        one_more rows firsts count,
        next,
        ← past_told count,
        le-ltb (rows + count) rows past,
      )
      (three_pairs
      (eqb (bits_past rows truths count) 0) (eqb (get_or truths (rows + count) 0) 0)
      (eqb (bits_past rows counts count) 0) (eqb (get_or counts (rows + count) 0) 0)
      (eqb (bits_past rows firsts count) 0) (eqb (get_or firsts (rows + count) 0) 0))

  -- One entry more of each is put to numbers that tell of those before.
  pub past_more : {row : ℕ} (truth number : ℕ) → rows ≤ row → (eqb truth 0 && eqb number 0) ≡ every row (zero_past? rows truths counts firsts)
      → (eqb (bit_or truth (get_or truths row 0)) 0 && eqb (bit_or (bit_or number (get_or counts row 0)) (get_or firsts row 0)) 0)
      ≡ every (row + 1) (zero_past? rows truths counts firsts)
  unfolding every zero_past?
  past_more {row} truth number past is =
      rw (
        or_zero_lem truth (get_or truths row 0),
        or_zero_lem (bit_or number (get_or counts row 0)) (get_or firsts row 0),
        or_zero_lem number (get_or counts row 0),
        add-one,
        le-ltb _ _ past,
        ← is,
        and_assoc (eqb number 0) (eqb (get_or counts row 0) 0) (eqb (get_or firsts row 0) 0),
      )
      (and_pairs (eqb truth 0) (eqb (get_or truths row 0) 0) (eqb number 0) (eqb (get_or counts row 0) 0 && eqb (get_or firsts row 0) 0))
