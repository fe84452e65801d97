-- The four fields of a row beside their uses: what the check's loop over them finds tells whether the row's numbers fit.
use mathlib.Core.Bool.{Bool, true, false, ◌&&◌}
use mathlib.Core.List.{List, [], ◌∷◌}
use mathlib.Core.Path.{◌≡◌, refl, subst}
use Prim.Native.Nat.{ℕ, zero, suc, ◌<◌}
use native.Mathlib.Omega.{arith}
use lib.ListN.{get_or}
use Rattle.kinds.specs.Kinds.{known, kind_at, number_of, kind_line, fits}
use Rattle.kinds.specs.declared.kind.Kind as Named
use Rattle.kinds.specs.declared.table.KindLine.{KindLine}
use Rattle.kinds.specs.declared.table.Use.{Use}
use Rattle.kinds.specs.declared.table.Use.TheVariants.{Unused}
use Rattle.kinds.proofs.Outcomes.{number-known}
use Rattle.rules.specs.Table.{row_passes}
use Rattle.rules.specs.declared.numbers.Numbers.{Numbers}

-- Each field with its use, and whether the one at a place fits it.
abbrev pub fields_of : KindLine → Numbers → List (Use × ℕ)
fields_of line row = (line.x, row.x) ∷ (line.y, row.y) ∷ (line.a, row.a) ∷ (line.b, row.b) ∷ []

abbrev pub field_fits : (r : ℕ) (fields : List (Use × ℕ)) (k : ℕ) → Bool
field_fits r fields k = fits r (get_or fields k (Unused, 0)).0 (get_or fields k (Unused, 0)).1

-- One of four tests fails.
one-fails : (p q r s : Bool) (k : ℕ) → k < 4 → get_or (p ∷ q ∷ r ∷ s ∷ []) k true ≡ false → (p && q && r && s) ≡ false
one-fails false q r s k few h = refl
one-fails true false r s k few h = refl
one-fails true true false s k few h = refl
one-fails true true true false k few h = refl
one-fails true true true true zero few h = h
one-fails true true true true (suc zero) few h = h
one-fails true true true true (suc (suc zero)) few h = h
one-fails true true true true (suc (suc (suc zero))) few h = h
one-fails true true true true (suc (suc (suc (suc k)))) few h = absurd (omega arith)

fits-at : (r : ℕ) (line : KindLine) (row : Numbers) (k : ℕ) → k < 4 → field_fits r (fields_of line row) k ≡ false
    → get_or (fits r line.x row.x ∷ fits r line.y row.y ∷ fits r line.a row.a ∷ fits r line.b row.b ∷ []) k true ≡ false
fits-at r line row zero few h = h
fits-at r line row (suc zero) few h = h
fits-at r line row (suc (suc zero)) few h = h
fits-at r line row (suc (suc (suc zero))) few h = h
fits-at r line row (suc (suc (suc (suc k)))) few h = absurd (omega arith)

-- A row of a kind that is known passes where each of its fields fits, and fails where one does not; a row of no kind fails.
module _ (r : ℕ) (row : Numbers) (kind : Named.Kind) (line : KindLine) (named-so : number_of kind ≡ row.kind) (lined : line ≡ kind_line (kind_at (number_of kind))) where
  is-known : known row.kind ≡ true
  is-known = rw (← named-so) (number-known kind)

  same-line : line ≡ kind_line (kind_at row.kind)
  same-line = rw (← named-so) lined

  pub fields_pass : ((k : ℕ) → k < 4 → field_fits r (fields_of line row) k ≡ true) → row_passes r row ≡ true
  unfolding row_passes
  fields_pass each =
      let fit = subst (λ (l : KindLine). (k : ℕ) → k < 4 → field_fits r (fields_of l row) k ≡ true) same-line each in
      rw (is-known, fit 0 (omega arith), fit 1 (omega arith), fit 2 (omega arith), fit 3 (omega arith))

  pub field_fails : (k : ℕ) → k < 4 → field_fits r (fields_of line row) k ≡ false → row_passes r row ≡ false
  unfolding row_passes
  field_fails k few fails =
      rw is-known
      (one-fails _ _ _ _ k few (fits-at r (kind_line (kind_at row.kind)) row k few (subst (λ (l : KindLine). field_fits r (fields_of l row) k ≡ false) same-line fails)))

pub unknown_fails : (r : ℕ) (row : Numbers) → known row.kind ≡ false → row_passes r row ≡ false
unfolding row_passes
unknown_fails r row h = rw h
