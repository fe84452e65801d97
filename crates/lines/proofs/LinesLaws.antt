-- The lines of a text are its first line, up to and with the first line feed, and those of the rest.
use mathlib.Core.List.{List, [], ◌∷◌, ◌++◌, append_assoc}
use mathlib.Core.Path.{◌≡◌, refl, ◌∙◌}
use Prim.Native.Nat.{ℕ, ◌<◌}
use native.Mathlib.Omega.{arith}
use lib.Dec.{eqb}
use lib.ListN.{length, take, drop}
use Rattle.lines.specs.Line.{line_feed, past_first}
use Rattle.lines.specs.Lines.{cut_off, lines_going_on, lines_of}
use Rattle.meaning.proofs.Truths.{by_test}

cut_off_lem : (line : List ℕ) (byte : ℕ) → cut_off (line ++ (byte ∷ [])) ≡ (line ++ (byte ∷ [])) ∷ []
cut_off_lem [] byte = refl
cut_off_lem (first ∷ line) byte = refl

first-line : (line : List ℕ) (byte : ℕ) (text : List ℕ)
    → lines_going_on line (byte ∷ text)
    ≡ (line ++ take (past_first (byte ∷ text)) (byte ∷ text)) ∷ lines_of (drop (past_first (byte ∷ text)) (byte ∷ text))
unfolding lines_going_on past_first
first-line line byte [] =
    by_test (eqb byte line_feed) (λ ends. rw ends) (λ other. rw other (cut_off_lem line byte))
first-line line byte (next ∷ text) =
    by_test (eqb byte line_feed) (λ ends. rw ends)
    (λ other. rw other
    (first-line (line ++ (byte ∷ [])) next text
    ∙ rw (append_assoc line (byte ∷ []) (take (past_first (next ∷ text)) (next ∷ text)))))

pub lines-first : (text : List ℕ) → 0 < length text → lines_of text ≡ take (past_first text) text ∷ lines_of (drop (past_first text) text)
lines-first [] some = absurd (omega arith)
lines-first (byte ∷ text) some = first-line [] byte text
