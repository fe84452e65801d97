-- A list of row numbers (document 02, E4), computed number by number. That the test tells exactly the document's words is `list-told` of the promises.
use Rattle.std.specs.Prelude.{Bool, true, ◌&&◌, List, [], ◌∷◌, ℕ, suc, leb, ltb, length, take}
use Rattle.row_list.specs.declared.list.RowList.{RowList}

-- "a list of 1 to 16 row numbers".
abbrev pub list_limit : ℕ
list_limit = 16

-- Each number is not below the least, and within the table; the next one is above it.
unfoldable pub rises_within : (rows least : ℕ) → List ℕ → Bool
rises_within rows least [] = true
rises_within rows least (row ∷ list) = leb least row && ltb row rows && rises_within rows (suc row) list

-- "1 to 16 row numbers, strictly rising, each within the table".
unfoldable pub list_passes : List ℕ → ℕ → Bool
list_passes list rows = leb 1 (length list) && leb (length list) list_limit && rises_within rows 0 list

-- The numbers of a list that is handed on by value.
abbrev pub numbers_of : RowList → List ℕ
numbers_of list = take list.count list.rows
