-- Lines joined to a text, and the text's lines again. Those of a text stay its lines where some are left out: only the last can be without
-- a line feed.
use mathlib.Core.Bool.{Bool, true, false}
use mathlib.Core.List.{List, [], ◌∷◌, ◌++◌, flatten, append-nil, append_assoc, cons-ne-nil}
use mathlib.Core.Path.{◌≡◌, refl, sym, ap, ◌∙◌}
use Prim.Native.Nat.{ℕ}
use lib.Dec.{eqb}
use Rattle.lines.specs.Line.{line_feed}
use Rattle.lines.specs.Lines.{lines_going_on, lines_of}
use Rattle.meaning.proofs.Truths.{by_test}
use Rattle.promises.specs.LeftOut.{Machine, others}

pub flatten_append : (first second : List (List ℕ)) → flatten (first ++ second) ≡ flatten first ++ flatten second
unfolding flatten
flatten_append [] second = refl
flatten_append (line ∷ first) second =
    ap (λ (l : List ℕ). line ++ l) (flatten_append first second) ∙ sym (append_assoc line (flatten first) (flatten second))

-- A text is its lines, one after the other.
going_on_joined : (line text : List ℕ) → flatten (lines_going_on line text) ≡ line ++ text
unfolding flatten lines_going_on
going_on_joined [] [] = refl
going_on_joined (first ∷ line) [] = refl
going_on_joined line (byte ∷ text) =
    by_test (eqb byte line_feed)
    (λ ends. rw ends
    (ap (λ (l : List ℕ). (line ++ (byte ∷ [])) ++ l) (going_on_joined [] text) ∙ append_assoc line (byte ∷ []) text))
    (λ other. rw other (going_on_joined (line ++ (byte ∷ [])) text ∙ append_assoc line (byte ∷ []) text))

pub lines-joined : (text : List ℕ) → flatten (lines_of text) ≡ text
lines-joined text = going_on_joined [] text

-- A line that ends, whatever follows it, or the last one of a text.
pub data Stands (line : List ℕ) (after : List (List ℕ)) : Type 0 where
  ends : ((rest : List ℕ) → lines_of (line ++ rest) ≡ line ∷ lines_of rest) → Stands line after
  is_last : lines_of line ≡ line ∷ [] → after ≡ [] → Stands line after

abbrev pub AreLines : List (List ℕ) → Type 0
AreLines [] = Unit
AreLines (line ∷ lines) = Stands line lines × AreLines lines

pub joined-lines : (lines : List (List ℕ)) → AreLines lines → lines_of (flatten lines) ≡ lines
unfolding flatten lines_going_on
joined-lines [] are = refl
joined-lines (line ∷ lines) are = go are.0 (joined-lines lines are.1)
  where
    go : Stands line lines → lines_of (flatten lines) ≡ lines → lines_of (line ++ flatten lines) ≡ line ∷ lines
    go (ends on) more = on (flatten lines) ∙ ap (λ (l : List (List ℕ)). line ∷ l) more
    go (is_last is none) more = rw none (rw (append-nil line) is)

-- The lines of a text.
going_on_lines : (line text : List ℕ)
    → ((rest : List ℕ) → lines_of (line ++ rest) ≡ lines_going_on line rest)
    → AreLines (lines_going_on line text)
unfolding lines_going_on
going_on_lines [] [] begun = tt
going_on_lines (first ∷ line) [] begun = (is_last (sym (ap lines_of (append-nil (first ∷ line))) ∙ begun []) refl, tt)
going_on_lines line (byte ∷ text) begun =
    by_test (eqb byte line_feed)
    (λ feed. rw feed (
      ends (λ rest. rw (append_assoc line (byte ∷ []) rest) (begun (byte ∷ rest) ∙ rw feed)),
      going_on_lines [] text (λ rest. refl),
    ))
    (λ other. rw other
    (going_on_lines (line ++ (byte ∷ [])) text
    (λ rest. rw (append_assoc line (byte ∷ []) rest) (begun (byte ∷ rest) ∙ rw other))))

pub text-lines : (text : List ℕ) → AreLines (lines_of text)
text-lines text = going_on_lines [] text (λ rest. refl)

-- Some are left out.
stands_on : (line : List ℕ) (after after' : List (List ℕ)) → (after ≡ [] → after' ≡ []) → Stands line after → Stands line after'
stands_on line after after' none (ends on) = ends on
stands_on line after after' none (is_last is no_more) = is_last is (none no_more)

module _ {State Answer : Type 0} (m : Machine State (List ℕ) Answer) where
  pub no_others : (s : State) (lines : List (List ℕ)) → lines ≡ [] → others m s lines ≡ []
  unfolding others
  no_others s lines none = ap (others m s) none

  pub others-lines : (s : State) (lines : List (List ℕ)) → AreLines lines → AreLines (others m s lines)
  unfolding others
  others-lines s [] are = tt
  others-lines s (line ∷ lines) are = go (m.unrefused (m.answer s line)) refl (others-lines (m.left s line) lines are.1)
    where
      go : (yes : Bool) → m.unrefused (m.answer s line) ≡ yes → AreLines (others m (m.left s line) lines) → AreLines (others m s (line ∷ lines))
      go true e more = rw e (stands_on line lines (others m (m.left s line) lines) (no_others (m.left s line) lines) are.0, more)
      go false e more = rw e more

pub lines_then : (heads rest other : List (List ℕ))
    → AreLines (heads ++ rest)
    → (rest ≡ [] → other ≡ [])
    → AreLines other
    → AreLines (heads ++ other)
lines_then [] rest other are none more = more
lines_then (line ∷ heads) rest other are none more =
    (stands_on line (heads ++ rest) (heads ++ other) (no_more heads) are.0, lines_then heads rest other are.1 none more)
  where
    no_more : (heads : List (List ℕ)) → heads ++ rest ≡ [] → heads ++ other ≡ []
    no_more [] is = none is
    no_more (head ∷ heads) is = absurd (cons-ne-nil head (heads ++ rest) is)

pub rest_lines : (heads rest : List (List ℕ)) → AreLines (heads ++ rest) → AreLines rest
rest_lines [] rest are = are
rest_lines (line ∷ heads) rest are = rest_lines heads rest are.1
