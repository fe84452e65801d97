-- Which rows are reached (document 02, E8): "Refuse a table in which some row is reached from no listed row".
use Rattle.std.specs.Prelude.{List, ◌≡◌, ℕ, ◌<◌, length, get_or}
use Rattle.kinds.specs.Kinds.{kind_at}
use Rattle.kinds.specs.declared.table.Use.TheVariants.{Lower}
use Rattle.rules.specs.Rows.{numbers_at}
use Rattle.rules.specs.declared.numbers.Numbers.{Numbers}

-- The rows that a row names, by the table of kinds: x where its kind uses x as a lower row, and y likewise.
pub data RowNames (n : Numbers) (row : ℕ) : Type 0 where
  by_x : (kind_at n.kind).x ≡ Lower → n.x ≡ row → RowNames n row
  by_y : (kind_at n.kind).y ≡ Lower → n.y ≡ row → RowNames n row

-- "A listed row reaches itself"; what a reached row names is reached; nothing else.
pub data Reached (table list : List ℕ) : ℕ → Type 0 where
  listed : (place : ℕ) → place < length list → Reached table list (get_or list place 0)
  named : (row from : ℕ) → Reached table list from → RowNames (numbers_at table from) row → Reached table list row
