-- Truths as bytes, a byte for each row.
use Rattle.std.specs.Prelude.{Bool, cond, List, ℕ, eqb, get_or}

-- A truth as a byte, 1 for true and 0 for false, and the truth that a byte tells.
abbrev pub byte_of : Bool → ℕ
byte_of truth = cond truth 1 0

abbrev pub is_true : ℕ → Bool
is_true byte = eqb byte 1

-- A row's truth; past the bytes there is none.
abbrev pub truth_at : List ℕ → ℕ → Bool
truth_at truths row = is_true (get_or truths row 0)
