-- What the tests of rows tell: which rows a row names, which it reaches, and which are reached from a list.
use mathlib.Core.Bool.{Bool, false, ◌&&◌, ◌||◌}
use mathlib.Core.List.{List, [], ◌∷◌}
use mathlib.Core.Logic.{◌⊎◌, inl, inr, ⊎_elim}
use mathlib.Core.Path.{◌≡◌, refl, sym, subst, ◌∙◌}
use Prim.Native.Nat.{ℕ, zero, suc, ◌<◌}
use native.Mathlib.Nat.{le_of_suc-le-suc}
use native.Mathlib.Omega.{arith}
use lib.Dec.{T, eqb, ltb}
use lib.ListN.{length, get_or}
use borrow.Author.Tests.{lt-ltb, le-ltb}
use Rattle.meaning.proofs.SpansLaws.{le_or_lt}
use Rattle.meaning.proofs.Tells.{Tells, tells_flag, tells_ltb, tells_eqb, tells_and, tells_or, tells_same, told_true}
use Rattle.kinds.specs.Kinds.{Kind, kind_at}
use Rattle.kinds.specs.declared.table.Use.TheVariants.{Lower}
use Rattle.kinds.proofs.KindsLaws.{lower_use_told, lower_told}
use Rattle.rules.specs.Rows.{numbers_at}
use Rattle.rules.specs.RowFormula.{below}
use Rattle.rules.specs.declared.numbers.Numbers.{Numbers}
use Rattle.rules.proofs.RowFitsLaws.{RowFits}
use Rattle.rules.proofs.RowFormulaLaws.{below_at, below-past}
use Rattle.dead_rows.specs.Reached.{RowNames, by_x, by_y, Reached, listed, named}
use Rattle.dead_rows.specs.DeadRows.{names_some, reaches_by, reaches, reached?}

-- A row that passes names only lower rows.
pub named_lower : (r : ℕ) (n : Numbers) (row : ℕ) → RowFits r n → RowNames n row → row < r
named_lower r n row fits (by_x lower same) =
    subst (λ (k : ℕ). k < r) same
    (lower_told r (kind_at n.kind).x n.x (told_true (lower_use_told (kind_at n.kind).x) lower) fits.all.x)
named_lower r n row fits (by_y lower same) =
    subst (λ (k : ℕ). k < r) same
    (lower_told r (kind_at n.kind).y n.y (told_true (lower_use_told (kind_at n.kind).y) lower) fits.all.y)

-- Which rows a row names.
module _ (test : ℕ → Bool) (n : Numbers) where
  abbrev k : Kind
  k = kind_at n.kind

  named_back : (row : ℕ)
      → RowNames n row
      → T (test row)
      → ((k.x ≡ Lower) × T (test n.x)) ⊎ ((k.y ≡ Lower) × T (test n.y))
  named_back row (by_x lower same) passed = inl (lower, subst (λ (r : ℕ). T (test r)) (sym same) passed)
  named_back row (by_y lower same) passed = inr (lower, subst (λ (r : ℕ). T (test r)) (sym same) passed)

  names_told : Tells (names_some test n) ((row : ℕ) × RowNames n row × T (test row))
  names_told =
      tells_same
      (⊎_elim (λ x. (n.x, by_x x.0 refl, x.1)) (λ y. (n.y, by_y y.0 refl, y.1)))
      (λ found. named_back found.0 found.1 found.2)
      (tells_or
      (tells_and (lower_use_told k.x) (tells_flag (test n.x)))
      (tells_and (lower_use_told k.y) (tells_flag (test n.y))))

module _ (table : List ℕ) where
  -- What a row below a bound reaches.
  below-reaches : (to bound row : ℕ) → below false (reaches_by table to) bound row ≡ (ltb row bound && reaches table row to)
  unfolding reaches
  below-reaches to bound row =
      ⊎_elim
      (λ lower.
      rw (
        lt-ltb row bound lower,
        below_at false (reaches_by table to) bound row lower,
        below_at false (reaches_by table to) (suc row) row (omega arith),
      ))
      (λ past. rw (le-ltb row bound (omega arith), below-past false (reaches_by table to) bound row (omega arith)))
      (le_or_lt (suc row) bound)

  reaches_by_lem : (from to : ℕ) → reaches table from to ≡ reaches_by table to from (below false (reaches_by table to) from)
  unfolding reaches
  reaches_by_lem from to = below_at false (reaches_by table to) (suc from) from (omega arith)

  reaches_is : (from to : ℕ)
      → reaches table from to ≡ (eqb from to || names_some (λ (row : ℕ). ltb row from && reaches table row to) (numbers_at table from))
  reaches_is from to =
      reaches_by_lem from to ∙ rw (below-reaches to from (numbers_at table from).x, below-reaches to from (numbers_at table from).y)

  lower_told_reaches : (from to row : ℕ) → Tells (ltb row from && reaches table row to) ((row < from) × T (reaches table row to))
  lower_told_reaches from to row = tells_and (tells_ltb row from) (tells_flag (reaches table row to))

  -- A row reaches itself, and what a lower row that it names reaches.
  pub reaches-told : (from to : ℕ)
      → Tells (reaches table from to)
      ((from ≡ to) ⊎ ((row : ℕ) × RowNames (numbers_at table from) row × (row < from) × T (reaches table row to)))
  reaches-told from to =
      rw (reaches_is from to)
      (tells_same
      (⊎_elim inl
      (λ found.
      let lower = (lower_told_reaches from to found.0).sound found.2 in
      inr (found.0, found.1, lower.0, lower.1)))
      (⊎_elim inl (λ found. inr (found.0, found.1, (lower_told_reaches from to found.0).complete (found.2, found.3))))
      (tells_or (tells_eqb from to) (names_told (λ (row : ℕ). ltb row from && reaches table row to) (numbers_at table from))))

  pub reaches_self : (row : ℕ) → T (reaches table row row)
  reaches_self row = (reaches-told row row).complete (inl refl)

  -- What holds of a row and is handed on to the lower rows that it names holds of all that it reaches.
  module _ (Holds : ℕ → Type 0) (handed : (from row : ℕ) → Holds from → RowNames (numbers_at table from) row → row < from → Holds row) where
    handed-below : (bound from to : ℕ) → from < bound → Holds from → T (reaches table from to) → Holds to
    handed-below zero from to lower holds reached = absurd (omega arith)
    handed-below (suc bound) from to lower holds reached =
        ⊎_elim
        (λ same. subst Holds same holds)
        (λ next. handed-below bound next.0 to (omega (arith, next.2)) (handed from next.0 holds next.1 next.2) next.3)
        ((reaches-told from to).sound reached)

    pub handed-on : (from to : ℕ) → Holds from → T (reaches table from to) → Holds to
    handed-on from to = handed-below (suc from) from to (omega arith)

  -- A row that reaches another reaches the lower rows that this one names.
  onward_below : (bound from middle row : ℕ)
      → from < bound
      → T (reaches table from middle)
      → RowNames (numbers_at table middle) row
      → row < middle
      → T (reaches table from row)
  onward_below zero from middle row within reached names lower = absurd (omega arith)
  onward_below (suc bound) from middle row within reached names lower =
      (reaches-told from row).complete
      (⊎_elim
      (λ same. inr (row, rw same names, omega arith, reaches_self row))
      (λ next.
      inr (next.0, next.1, next.2, onward_below bound next.0 middle row (omega (arith, next.2)) next.3 names lower))
      ((reaches-told from middle).sound reached))

  pub onward : (from middle row : ℕ)
      → T (reaches table from middle)
      → RowNames (numbers_at table middle) row
      → row < middle
      → T (reaches table from row)
  onward from middle row = onward_below (suc from) from middle row (omega arith)

-- Something holds of a number of a list, and of which: of the first, or of a later one.
pub record Somewhere (Holds : ℕ → Type 0) (list : List ℕ) : Type 0 where
  pub place : ℕ
  pub inside : place < length list
  pub holds : Holds (get_or list place 0)

pub nowhere : (Holds : ℕ → Type 0) → ¬ Somewhere Holds []
nowhere Holds found = omega (arith, found.inside)

pub somewhere : (Holds : ℕ → Type 0) (first : ℕ) (list : List ℕ) → Holds first ⊎ Somewhere Holds list → Somewhere Holds (first ∷ list)
somewhere Holds first list =
    ⊎_elim
    (λ here. record { place = 0; inside = omega arith; holds = here })
    (λ later. record { place = suc later.place; inside = omega (arith, later.inside); holds = later.holds })

pub here_or_later : (Holds : ℕ → Type 0) (first : ℕ) (list : List ℕ) → Somewhere Holds (first ∷ list) → Holds first ⊎ Somewhere Holds list
here_or_later Holds first list found = by found.place found.inside found.holds
  where
    by : (place : ℕ) → place < suc (length list) → Holds (get_or (first ∷ list) place 0) → Holds first ⊎ Somewhere Holds list
    by zero inside holds = inl holds
    by (suc place) inside holds = inr (record { place = place; inside = le_of_suc-le-suc inside; holds = holds })

-- A listed row, of so many, that reaches a row.
abbrev pub Reaching : (table : List ℕ) (rows row : ℕ) → ℕ → Type 0
Reaching table rows row from = (from < rows) × T (reaches table from row)

abbrev pub FoundIn : (table list : List ℕ) (rows row : ℕ) → Type 0
FoundIn table list rows row = Somewhere (Reaching table rows row) list

pub found-told : (table list : List ℕ) (rows row : ℕ) → Tells (reached? table list rows row) (FoundIn table list rows row)
unfolding reached?
found-told table [] rows row = record { sound = λ none. absurd none; complete = nowhere (Reaching table rows row) }
found-told table (from ∷ list) rows row =
    tells_same (somewhere (Reaching table rows row) from list) (here_or_later (Reaching table rows row) from list)
    (tells_or (tells_and (tells_ltb from rows) (tells_flag (reaches table from row))) (found-told table list rows row))

-- The test tells which rows are reached, where the rows pass and the listed ones are among them.
module _ (table list : List ℕ) (rows : ℕ) (fit : (row : ℕ) → row < rows → RowFits row (numbers_at table row))
    (within : (place : ℕ) → place < length list → get_or list place 0 < rows) where
  reached-found : (row : ℕ) → Reached table list row → (row < rows) × FoundIn table list rows row
  reached-found _ (listed place inside) = (
    within place inside,
    record { place = place; inside = inside; holds = (within place inside, reaches_self table (get_or list place 0)) },
  )
  reached-found _ (named row from reached names) =
      let above : (from < rows) × FoundIn table list rows from = reached-found from reached in
      let lower : row < from = named_lower from (numbers_at table from) row (fit from above.0) names in (
        omega (arith, above.0),
        record {
          place = above.1.place;
          inside = above.1.inside;
          holds = (above.1.holds.0, onward table (get_or list above.1.place 0) from row above.1.holds.1 names lower);
        },
      )

  pub reached-told : (row : ℕ) → Tells (reached? table list rows row) (Reached table list row)
  reached-told row =
      tells_same
      (λ found.
      handed-on table (Reached table list) (λ from row reached names lower. named row from reached names) (get_or list found.place 0) row
      (listed found.place found.inside) found.holds.1)
      (λ reached. (reached-found row reached).1)
      (found-told table list rows row)
