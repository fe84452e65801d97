-- Laws of the loops over words: one more word cleared, one more place freed.
use mathlib.Core.List.{List, ◌++◌, append_assoc}
use mathlib.Core.Path.{◌≡◌, ap, ◌∙◌}
use Prim.Native.Nat.{ℕ, suc, ◌+◌, ◌*◌, ◌≤◌, ◌<◌}
use native.Mathlib.Numerals.{add-one}
use native.Mathlib.Omega.{arith}
use lib.ListN.{length, get_or, drop, set, replicate, length-replicate, replicate-append-replicate}
use lib.Seq.{drop-cons, set_at}
use Rattle.spans.specs.Layout.{freed}

-- The words up to place i are cleared.
abbrev cleared : List ℕ → ℕ → List ℕ
cleared words i = replicate i 0 ++ drop i words

cleared_more : (words : List ℕ) (i : ℕ) → i < length words → set (cleared words i) i 0 ≡ cleared words (i + 1)
cleared_more words i h =
    rw (
      ← replicate-append-replicate {A = ℕ} i 1 0,
      add-one i,
      drop-cons words i 0 h,
      set_at (replicate i 0) (get_or words i 0) (drop (suc i) words) 0 i (length-replicate i 0),
    )
    (simp append_assoc)

-- The words of i places are freed.
pub freed-more : (words : List ℕ) (i : ℕ) → 2 * (i + 1) ≤ length words → set (set (freed i words) (2 * i) 0) (2 * i + 1) 0 ≡ freed (i + 1) words
freed-more words i h =
    let two : 2 * i + 1 + 1 ≡ 2 * (i + 1) = omega arith in
    ap (λ (l : List ℕ). set l (2 * i + 1) 0) (cleared_more words (2 * i) (omega arith))
    ∙ cleared_more words (2 * i + 1) (omega arith)
    ∙ ap (cleared words) two
