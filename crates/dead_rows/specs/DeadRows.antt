-- The lowest dead row (document 02, E8), computed from each listed row down. That the test tells exactly the rows which are reached is `reached-told` of the
-- laws, and of a setup that passes `row_reached_told` of the promises.
use Rattle.std.specs.Prelude.{Bool, false, cond, ◌&&◌, ◌||◌, List, [], ◌∷◌, ℕ, zero, suc, eqb, ltb}
use Rattle.kinds.specs.Kinds.{kind_at, is_lower}
use Rattle.rules.specs.Rows.{numbers_at}
use Rattle.rules.specs.RowFormula.{below}
use Rattle.rules.specs.declared.numbers.Numbers.{Numbers}

-- Whether a row names one that passes a test.
abbrev pub names_some : (ℕ → Bool) → Numbers → Bool
names_some test n = (is_lower (kind_at n.kind).x && test n.x) || (is_lower (kind_at n.kind).y && test n.y)

-- Whether a row reaches another, from what the rows below it reach: it is the other, or names one that reaches it.
abbrev pub reaches_by : (table : List ℕ) (to row : ℕ) → (ℕ → Bool) → Bool
reaches_by table to row lower = eqb row to || names_some lower (numbers_at table row)

unfoldable pub reaches : (table : List ℕ) (from to : ℕ) → Bool
reaches table from to = below false (reaches_by table to) (suc from) from

-- Whether a listed row, one of so many, reaches a row.
unfoldable pub reached? : (table list : List ℕ) (rows row : ℕ) → Bool
reached? table [] rows row = false
reached? table (from ∷ list) rows row = (ltb from rows && reaches table from row) || reached? table list rows row

-- The lowest row below n that fails a test; n where each passes it.
unfoldable pub lowest_not : (ℕ → Bool) → ℕ → ℕ
lowest_not test zero = zero
lowest_not test (suc n) = cond (ltb (lowest_not test n) n) (lowest_not test n) (cond (test n) (suc n) n)

-- "the lowest such row"; the row count where there is none.
abbrev pub lowest_dead : (table list : List ℕ) (rows : ℕ) → ℕ
lowest_dead table list rows = lowest_not (reached? table list rows) rows
