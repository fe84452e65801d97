-- What the private functions of src/marks leave. No public contract cites this file.
use Rattle.std.specs.Prelude.{Bool, true, cond, List, [], ◌∷◌, ℕ, ltb, set}
use Rattle.kinds.specs.Kinds.{kind_at, is_lower}
use Rattle.kinds.specs.declared.table.Use.{Use}
use Rattle.rules.specs.declared.numbers.Numbers.{Numbers}

-- A mark on a row that is below a bound.
unfoldable pub marked_below : (bound row : ℕ) → List Bool → List Bool
marked_below bound row marks = cond (ltb row bound) (set marks row true) marks

-- A mark on a number that is used as a lower row.
unfoldable pub marked_where : Use → (bound number : ℕ) → List Bool → List Bool
marked_where usage bound number marks = cond (is_lower usage) (marked_below bound number marks) marks

-- Marks on the rows that a row names.
unfoldable pub marked_named : (row : ℕ) → Numbers → List Bool → List Bool
marked_named row n marks = marked_where (kind_at n.kind).y row n.y (marked_where (kind_at n.kind).x row n.x marks)

-- Marks on the listed rows of so many.
unfoldable pub marked_listed : (rows : ℕ) → List ℕ → List Bool → List Bool
marked_listed rows [] marks = marks
marked_listed rows (row ∷ list) marks = marked_listed rows list (marked_below rows row marks)
