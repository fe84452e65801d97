-- The verdict bit by bit: from the last listed row to the first, as the loop goes, and what each bit is.
use mathlib.Core.Bool.{Bool, true, false}
use mathlib.Core.List.{List, [], ◌∷◌, ◌++◌, map}
use mathlib.Core.Path.{◌≡◌, refl, sym, ◌∙◌}
use Prim.Native.Nat.{ℕ, zero, suc, ◌+◌, ◌*◌, ◌/◌, ◌%◌, ◌^◌, ◌≤◌, ◌<◌}
use native.Mathlib.Nat.{lt_of_lt_of_le, pow-suc, mul_comm, zero-div, div-div-eq-div-mul}
use native.Mathlib.Omega.{arith}
use lib.ListN.{length, get_or, take, length-map, length-take, get_or-eq_default, get_or-map}
use lib.Pow.{pow_mono}
use lib.Seq.{take_all}
use Rattle.std.proofs.lemmas.List.{get_or_default}
use Rattle.meaning.specs.Computed.{bit_set?}
use Rattle.row_list.specs.RowList.{list_limit}
use Rattle.row_list.specs.Truths.{byte_of, truth_at}
use Rattle.row_list.specs.Verdict.{bits_of, verdict_number}
use Rattle.row_list.proofs.TruthsLaws.{byte_small}

pub bits_below : (bits : List Bool) → bits_of bits < 2 ^ length bits
unfolding bits_of
bits_below [] = omega arith
bits_below (bit ∷ bits) = rw (pow-suc 2 (length bits)) (omega (arith, byte_small bit, bits_below bits))

-- A verdict has as many bits as a list may have numbers.
pub verdict-below : (truths list : List ℕ) → verdict_number truths list < 2 ^ list_limit
unfolding verdict_number
verdict-below truths list =
    let few : length (map (truth_at truths) (take list_limit list)) ≤ list_limit =
    rw (length-map, length-take list_limit list) (omega arith) in
    lt_of_lt_of_le (bits_below (map (truth_at truths) (take list_limit list))) (pow_mono few)

-- The number, and below its bits those of such rows, the first of them lowest.
unfoldable pub bits_onto : (truths rows : List ℕ) → ℕ → ℕ
bits_onto truths [] number = number
bits_onto truths (row ∷ rows) number = byte_of (truth_at truths row) + 2 * bits_onto truths rows number

module _ (truths : List ℕ) where
  pub onto_none : (rows : List ℕ) → bits_onto truths rows 0 ≡ bits_of (map (truth_at truths) rows)
  unfolding bits_onto bits_of
  onto_none [] = refl
  onto_none (row ∷ rows) = rw (onto_none rows) refl

  onto_least : (rows : List ℕ) (number : ℕ) → number ≤ bits_onto truths rows number
  unfolding bits_onto
  onto_least [] number = omega arith
  onto_least (row ∷ rows) number = omega (arith, onto_least rows number)

  -- The last row is the first whose bit is put.
  onto_push : (rows : List ℕ) (row number : ℕ)
      → bits_onto truths (rows ++ row ∷ []) number ≡ bits_onto truths rows (number * 2 + byte_of (truth_at truths row))
  unfolding bits_onto
  onto_push [] row number = omega arith
  onto_push (first ∷ rows) row number = rw (onto_push rows row number) refl

  -- One turn: of the rows that are left the last puts its bit, for which there is room.
  pub onto_turn : (list left rest : List ℕ) (row number : ℕ)
      → left ≡ rest ++ row ∷ []
      → bits_onto truths left number ≡ verdict_number truths list
      → (bits_onto truths rest (number * 2 + byte_of (truth_at truths row)) ≡ verdict_number truths list)
      × (number * 2 + byte_of (truth_at truths row) < 2 ^ list_limit)
  onto_turn list left rest row number one_more onto =
      let put = sym (onto_push rest row number) ∙ (rw one_more at onto) in
      (put, omega (arith, put, onto_least rest (number * 2 + byte_of (truth_at truths row)), verdict-below truths list))

-- Bit k of a number with these bits is the k-th; past them there is none.
pub bit_of : (bits : List Bool) (k : ℕ) → bit_set? k (bits_of bits) ≡ get_or bits k false
unfolding bits_of
bit_of [] k = rw (zero-div (2 ^ k)) refl
bit_of (true ∷ bits) zero =
    let odd : (1 + 2 * bits_of bits) / 2 ^ 0 % 2 ≡ 1 = omega arith in
    rw odd refl
bit_of (false ∷ bits) zero =
    let even : (0 + 2 * bits_of bits) / 2 ^ 0 % 2 ≡ 0 = omega arith in
    rw even refl
bit_of (bit ∷ bits) (suc k) =
    let half : (byte_of bit + 2 * bits_of bits) / 2 ≡ bits_of bits = omega (arith, byte_small bit) in
    rw (pow-suc 2 k, mul_comm (2 ^ k) 2, ← (div-div-eq-div-mul (byte_of bit + 2 * bits_of bits) 2 (2 ^ k)), half) (bit_of bits k)

-- "bit k is the verdict of the k-th listed row ..., other bits 0", of a list that is no longer than it may be.
module _ (truths list : List ℕ) (k : ℕ) (few : length list ≤ list_limit) where
  pub verdict-bit : k < length list → bit_set? k (verdict_number truths list) ≡ truth_at truths (get_or list k 0)
  unfolding verdict_number
  verdict-bit within =
      let inside : k < length (map (truth_at truths) list) = rw length-map within in
      rw (take_all list_limit list few)
      (bit_of (map (truth_at truths) list) k ∙ get_or_default _ k false (truth_at truths 0) inside ∙ get_or-map (truth_at truths) list k 0)

  pub verdict-past : length list ≤ k → bit_set? k (verdict_number truths list) ≡ false
  unfolding verdict_number
  verdict-past past =
      let none : length (map (truth_at truths) list) ≤ k = rw length-map past in
      rw (take_all list_limit list few) (bit_of (map (truth_at truths) list) k ∙ get_or-eq_default (map (truth_at truths) list) false none)
