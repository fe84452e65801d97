-- Going through the rows from the last down, by the marks: what holds at each row, and that the lowest row without a mark is the lowest dead one.
use mathlib.Core.Bool.{Bool, true, false}
use mathlib.Core.List.{List}
use mathlib.Core.Logic.{⊎_elim}
use mathlib.Core.Path.{◌≡◌, refl, sym, subst, ◌∙◌}
use Prim.Native.Nat.{ℕ, zero, suc, ◌≤◌, ◌<◌}
use native.Mathlib.Nat.{eq-or-lt_of_le, le_of_suc-le-suc}
use native.Mathlib.Omega.{arith}
use lib.Dec.{T}
use lib.ListN.{length, get_or, replicate, length-replicate, get_or-replicate, get_or-eq_default}
use borrow.Author.Tests.{lt-ltb, le-ltb}
use Rattle.meaning.proofs.SpansLaws.{le_or_lt}
use Rattle.meaning.proofs.Tells.{tells_flag, told_true, told_false}
use Rattle.meaning.proofs.Truths.{no_truth}
use Rattle.rules.specs.Limits.{row_limit}
use Rattle.rules.specs.Rows.{numbers_at}
use Rattle.dead_rows.specs.Reached.{RowNames}
use Rattle.dead_rows.specs.DeadRows.{reaches, reached?, lowest_not, lowest_dead}
use Rattle.dead_rows.specs.Marks.{marked_named, marked_listed}
use Rattle.dead_rows.proofs.ReachedLaws.{reaches_self, handed-on, onward, found-told}
use Rattle.dead_rows.proofs.MarksLaws.{Marked, named_added, listed_added}

-- The lowest row that fails a test.
module _ (test : ℕ → Bool) where
  pub lowest_is : (n lowest : ℕ)
      → lowest ≤ n
      → ((row : ℕ) → row < lowest → test row ≡ true)
      → (lowest < n → test lowest ≡ false)
      → lowest ≡ lowest_not test n
  unfolding lowest_not
  lowest_is zero lowest few passed failed = omega arith
  lowest_is (suc n) lowest few passed failed =
      ⊎_elim
      (λ all.
      let before : n ≡ lowest_not test n = lowest_is n n (omega arith) (λ row lower. passed row (omega arith)) (λ none. absurd (omega arith)) in
      rw (← before, le-ltb n n (omega arith), passed n (omega arith)) all)
      (λ some.
      let within : lowest ≤ n = le_of_suc-le-suc some in
      let before : lowest ≡ lowest_not test n = lowest_is n lowest within passed (λ lower. failed (omega arith)) in
      rw (← before)
      (⊎_elim
      (λ here. rw (here, le-ltb n n (omega arith), last n lowest here failed))
      (λ lower. rw (lt-ltb lowest n lower))
      (eq-or-lt_of_le within)))
      (eq-or-lt_of_le few)
    where
      last : (n lowest : ℕ) → lowest ≡ n → (lowest < suc n → test lowest ≡ false) → test n ≡ false
      last n lowest here failed = subst (λ (row : ℕ). test row ≡ false) here (failed (omega arith))

-- After the rows from some row on: every listed row is marked, and what marked ones from there on name; only reached rows are marked; and of the rows from
-- there on the lowest without a mark is known.
pub record Swept (table list : List ℕ) (rows row : ℕ) (marks : List Bool) (dead : ℕ) : Type 0 where
  pub size : length marks ≡ row_limit
  pub listed : (place : ℕ) → place < length list → get_or list place 0 < rows → Marked marks (get_or list place 0)
  pub named : (from lower : ℕ)
      → row ≤ from
      → from < rows
      → Marked marks from
      → RowNames (numbers_at table from) lower
      → lower < from
      → Marked marks lower
  pub only : (r : ℕ) → Marked marks r → T (reached? table list rows r)
  pub few : dead ≤ rows
  pub alive : (r : ℕ) → row ≤ r → r < dead → Marked marks r
  pub from_here : dead < rows → row ≤ dead
  pub unmarked : dead < rows → ¬ Marked marks dead

none-marked : (n row : ℕ) → ¬ Marked (replicate n false) row
none-marked n row marked =
    ⊎_elim
    (λ lower. no_truth (sym (get_or-replicate n row false false lower) ∙ marked))
    (λ past.
    let size : length (replicate n false) ≡ n = length-replicate n false in
    no_truth (sym (get_or-eq_default (replicate n false) false (omega arith)) ∙ marked))
    (le_or_lt (suc row) n)

module _ (table list : List ℕ) (rows : ℕ) where
  -- At the start only the listed rows are marked.
  pub swept_start : rows ≤ row_limit → Swept table list rows rows (marked_listed rows list (replicate row_limit false)) rows
  swept_start few =
      let size : length (replicate row_limit false) ≡ row_limit = length-replicate row_limit false in
      let added = listed_added rows list (replicate row_limit false) (omega arith) in
      record {
        size = added.size ∙ size;
        listed = λ place inside within. added.such (get_or list place 0) (record { place = place; inside = inside; holds = (refl, within) });
        named = λ from lower past within marked names below. absurd (omega arith);
        only = λ r marked.
            ⊎_elim
            (λ before. absurd (none-marked row_limit r before))
            (λ is.
            (found-told table list rows r).complete
            (record {
              place = is.place;
              inside = is.inside;
              holds = (
                is.holds.1,
                subst (λ (at : ℕ). T (reaches table (get_or list is.place 0) at)) is.holds.0 (reaches_self table (get_or list is.place 0)),
              );
            }))
            (added.only r marked);
        few = omega arith;
        alive = λ r past within. absurd (omega arith);
        from_here = λ lower. absurd (omega arith);
        unmarked = λ lower. absurd (omega arith);
      }

  -- A row that is marked marks the rows that it names; one that is not is the lowest dead one so far.
  module _ (row next : ℕ) (marks : List Bool) (dead : ℕ) (swept : Swept table list rows next marks dead)
      (after-row : next ≡ suc row) (lower : row < rows) (few : rows ≤ row_limit) where
    pub swept-marked : Marked marks row → Swept table list rows row (marked_named row (numbers_at table row) marks) dead
    swept-marked marked =
        let added = named_added (numbers_at table row) row marks (omega (arith, swept.size)) in
        record {
          size = added.size ∙ swept.size;
          listed = λ place inside within. added.stays (get_or list place 0) (swept.listed place inside within);
          named = λ from named-row past within from-marked names below.
              ⊎_elim
              (λ here. added.such named-row (rw here names, omega arith))
              (λ above.
              added.stays named-row
              (⊎_elim
              (λ before. swept.named from named-row (omega arith) within before names below)
              (λ is. absurd (omega (arith, is.1)))
              (added.only from from-marked)))
              (eq-or-lt_of_le past);
          only = λ r r-marked.
              ⊎_elim
              (swept.only r)
              (λ is.
              let found = (found-told table list rows row).sound (swept.only row marked) in
              (found-told table list rows r).complete
              (record {
                place = found.place;
                inside = found.inside;
                holds = (found.holds.0, onward table (get_or list found.place 0) row r found.holds.1 is.0 is.1);
              }))
              (added.only r r-marked);
          few = swept.few;
          alive = λ r past within.
              added.stays r (⊎_elim (λ here. subst (Marked marks) here marked) (λ above. swept.alive r (omega arith) within) (eq-or-lt_of_le past));
          from_here = λ some. omega (arith, swept.from_here some);
          unmarked = λ some after.
              ⊎_elim (swept.unmarked some) (λ is. omega (arith, is.1, swept.from_here some)) (added.only dead after);
        }

    pub swept-dead : ¬ Marked marks row → Swept table list rows row marks row
    swept-dead none =
        record {
          size = swept.size;
          listed = swept.listed;
          named = λ from named-row past within from-marked names below.
              ⊎_elim
              (λ here. absurd (none (subst (Marked marks) (sym here) from-marked)))
              (λ above. swept.named from named-row (omega arith) within from-marked names below)
              (eq-or-lt_of_le past);
          only = swept.only;
          few = omega arith;
          alive = λ r past within. absurd (omega arith);
          from_here = λ some. omega arith;
          unmarked = λ some. none;
        }

  -- After the last turn every reached row is marked.
  pub swept_whole : (marks : List Bool) (dead : ℕ) → Swept table list rows 0 marks dead → dead ≡ lowest_dead table list rows
  swept_whole marks dead swept =
      lowest_is (reached? table list rows) rows dead swept.few
      (λ r within. told_true (tells_flag (reached? table list rows r)) (swept.only r (swept.alive r (omega arith) within)))
      (λ some.
      told_false (tells_flag (reached? table list rows dead))
      (λ reached.
      let found = (found-told table list rows dead).sound reached in
      swept.unmarked some
      (handed-on table
      (λ (r : ℕ). (r < rows) × Marked marks r)
      (λ from r holds names below. (omega (arith, holds.0), swept.named from r (omega arith) holds.0 holds.1 names below))
      (get_or list found.place 0) dead
      (found.holds.0, swept.listed found.place found.inside found.holds.0)
      found.holds.1
      ).1))
