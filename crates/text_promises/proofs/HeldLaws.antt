-- What is held of an unfinished line: its first bytes, as many as a good line has.
use mathlib.Core.List.{List, [], ◌∷◌, ◌++◌}
use mathlib.Core.Path.{◌≡◌, refl, sym, ap, ◌∙◌}
use Prim.Native.Nat.{ℕ, ◌+◌, ◌≤◌, ◌<◌, min}
use native.Mathlib.Nat.{min-eq_left}
use native.Mathlib.Omega.{arith}
use native.Mathlib.Numerals.{add-one}
use borrow.Author.Tests.{ltb-true, ltb-false}
use lib.Dec.{ltb}
use lib.ListN.{length, take, set, length-append, length-set}
use lib.Seq.{take-suc-set, take_all, take-append-le}
use Rattle.meaning.proofs.Truths.{by_test}
use Rattle.text.specs.declared.state.Held.{Held}
use Rattle.text.specs.Held.{line_limit, held_line, holding, emptied}

pub record HoldsLine (h : Held) (line : List ℕ) : Type 0 where
  pub size : length h.bytes ≡ line_limit
  pub count : h.count ≡ min (length line) line_limit
  pub bytes : take h.count h.bytes ≡ take line_limit line

pub holds_line : (h : Held) (line : List ℕ) → HoldsLine h line → held_line h ≡ take line_limit line
holds_line h line holds =
    let count : h.count ≡ min (length line) line_limit = holds.count in
    let within : h.count ≤ line_limit = omega arith in
    rw (min-eq_left within) holds.bytes

pub holds_none : (h : Held) → length h.bytes ≡ line_limit → HoldsLine (emptied h) []
holds_none h size = record { size = size; count = refl; bytes = refl }

pub holds_more : (h : Held) (line : List ℕ) (byte : ℕ) → HoldsLine h line → HoldsLine (holding h byte) (line ++ (byte ∷ []))
unfolding holding
holds_more h line byte holds =
    let count : h.count ≡ min (length line) line_limit = holds.count in
    let longer : length (line ++ (byte ∷ [])) ≡ length line + 1 = length-append line (byte ∷ []) in
    by_test (ltb h.count line_limit)
    (λ room.
    let below : h.count < line_limit = ltb-true _ _ room in
    let short : length line ≤ line_limit = omega arith in
    let within : h.count < length h.bytes = rw holds.size below in
    let stored : take (h.count + 1) (set h.bytes h.count byte) ≡ take h.count h.bytes ++ (byte ∷ []) =
    rw add-one (take-suc-set h.bytes h.count byte within) in
    rw room
    (record {
      size = simp length-set holds.size;
      count = omega arith;
      bytes =
          stored
          ∙ ap (λ (l : List ℕ). l ++ (byte ∷ [])) (holds.bytes ∙ take_all line_limit line short)
          ∙ sym (take_all line_limit (line ++ (byte ∷ [])) (omega arith));
    }))
    (λ full.
    let past : line_limit ≤ h.count = ltb-false _ _ full in
    rw full
    (record {
      size = holds.size;
      count = omega arith;
      bytes = holds.bytes ∙ sym (take-append-le line_limit line (byte ∷ []) (omega arith));
    }))
