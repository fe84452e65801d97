-- A row past the table's length reads as the one at its length: all five numbers as 0.
use mathlib.Core.List.{List}
use mathlib.Core.Logic.{⊎_elim}
use mathlib.Core.Path.{◌≡◌, sym, ◌∙◌}
use Prim.Native.Nat.{ℕ, min}
use native.Mathlib.Omega.{arith}
use lib.ListN.{length, get_or-eq_default}
use Rattle.meaning.proofs.Tells.{tells_leb, tells_decided}
use Rattle.rules.specs.Rows.{field_at}

pub field_clipped : (table : List ℕ) (row field : ℕ) → field_at table (min row (length table)) field ≡ field_at table row field
field_clipped table row field =
    ⊎_elim
    (λ past. get_or-eq_default table 0 (omega arith) ∙ sym (get_or-eq_default table 0 (omega arith)))
    (λ within. let whole : min row (length table) ≡ row = omega arith in rw whole)
    (tells_decided (tells_leb (length table) row))
